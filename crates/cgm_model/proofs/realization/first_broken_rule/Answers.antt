use Rattle.std.proofs.Common.{List, All, sym, subst}
use Rattle.std.proofs.Math.Logic.{∥∥₁_elim}
use Rattle.std.proofs.Props.{props}
use Rattle.cgm_formula.specs.Reading.{number_in}
use Rattle.cgm_formula.specs.Sizes.{AreSmallIn}
use Rattle.cgm_model.specs.declared.lists.Rule.{Rule}
use Rattle.cgm_model.specs.Formulas.{formula_of}
use Rattle.std.proofs.lemmas.Bool.{iff_false}
use Rattle.cgm_model.specs.Realization.{KeepsRule}
use Rattle.cgm_model.proofs.Places.{Settles-more, first_from_settled}
use Rattle.cgm_model.specs.Model.{lists_of}
use Rattle.cgm_model.proofs.Rules.{keeps_anywhere, rules_small}
use Rattle.cgm_model.proofs.realization.first_broken_rule.Goals as goal

pub keeps_rule-requires : goal.keeps_rule-requires
keeps_rule-requires c =
    let a = c.args.assignment.now in
    let sums = c.args.sums.now in
    let S : Rule → Type 0 = λ r. AreSmallIn (number_in a sums) (formula_of r) in
    ∥∥₁_elim c.args.model.now.well_formed (hlevel props)
    (λ w.
    let all : All S c.as_slice-rule-items.result.now = subst (λ (rs : List Rule). All S rs) (sym c.as_slice-rule-items.ensures) (rules_small (lists_of c.args.model.now) w a sums c.requires.fits c.requires.sums) in
    subst S (sym c.rule-item.is) (all c.loop-number.number c.rule-item.result c.loop-number-test.true))

pub returns-then-not-keeps_rule : goal.returns-then-not-keeps_rule
returns-then-not-keeps_rule c =
    let a = c.args.assignment.now in
    let sums = c.args.sums.now in
    let i = c.loop-number.number in
    first_from_settled (KeepsRule a sums) c.args.model.now.rules c.as_slice-rule-items.result.now i c.rule-item.result c.as_slice-rule-items.ensures c.loop-number-test.true c.rule-item.is (λ h. iff_false c.keeps_rule.ensures c.if-not-keeps_rule.true (keeps_anywhere a sums i 0 c.rule-item.result h)) c.loop-number.invariant

pub loop-number-preserved : goal.loop-number-preserved
loop-number-preserved c =
    let a = c.args.assignment.now in
    let sums = c.args.sums.now in
    let i = c.loop-number.number in
    Settles-more (KeepsRule a sums) c.args.model.now.rules c.as_slice-rule-items.result.now i c.rule-item.result c.as_slice-rule-items.ensures c.loop-number-test.true c.rule-item.is (keeps_anywhere a sums 0 i c.rule-item.result (c.keeps_rule.ensures.0 c.if-not-keeps_rule.false)) c.loop-number.invariant
