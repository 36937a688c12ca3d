use Rattle.std.proofs.Common.{List, subst, sym}
use Rattle.std.specs.List.{All}
use Rattle.cgm_model.specs.declared.lists.Objective.{Objective}
use Rattle.cgm_model.specs.Model.{lists_of}
use Rattle.cgm_encode.specs.Summands.{IsFitting}
use Rattle.cgm_encode.proofs.SignedShares.{objectives_fit_in}
use Rattle.cgm_encode.proofs.quantities.objectives.Goals as goal

pub returns-clause-fitting : goal.returns-clause-fitting
returns-clause-fitting c =
    let m = lists_of c.args.model.now in
    let pairs = c.args.earlier.now.pairs in
    subst (λ (os : List Objective). All (IsFitting m pairs) os) (sym c.as_slice.ensures) (objectives_fit_in m pairs c.args.model.now.well_formed)
