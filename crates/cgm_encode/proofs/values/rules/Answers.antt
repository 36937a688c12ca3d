use Rattle.std.proofs.Common.{List, All, subst, sym}
use Rattle.std.proofs.Math.Logic.{∥∥₁_elim}
use Rattle.std.proofs.Props.{props}
use Rattle.cgm_formula.specs.Reading.{number_in}
use Rattle.cgm_formula.specs.Sizes.{AreSmallIn}
use Rattle.cgm_model.specs.declared.lists.Rule.{Rule}
use Rattle.cgm_model.specs.Formulas.{formula_of}
use Rattle.cgm_model.specs.Model.{lists_of}
use Rattle.cgm_model.proofs.Rules.{rules_small}
use Rattle.cgm_encode.proofs.values.rules.Goals as goal

pub returns-clause-small : goal.returns-clause-small
returns-clause-small c =
    let a = c.args.assignment.now in
    let sums = c.args.sums.now in
    ∥∥₁_elim c.args.model.now.well_formed (hlevel props)
    (λ w. subst (λ (rs : List Rule). All (λ r. AreSmallIn (number_in a sums) (formula_of r)) rs) (sym c.as_slice.ensures)
    (rules_small (lists_of c.args.model.now) w a sums c.requires.fits c.requires.sums))
