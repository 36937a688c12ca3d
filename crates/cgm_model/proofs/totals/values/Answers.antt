use Rattle.std.proofs.Common.{◌<◌, ◌≤◌, List, All, length, arith, sym, subst}
use Rattle.std.specs.Prelude.{unsigned_abs}
use Rattle.std.proofs.Math.Logic.{∥∥₁_elim}
use Rattle.std.proofs.Props.{props}
use Rattle.cgm_model.specs.declared.lists.SumValue.{SumValue}
use Rattle.cgm_model.proofs.totals.values.Goals as goal

pub returns-clause-there : goal.returns-clause-there
returns-clause-there c =
    ∥∥₁_elim c.args.model.now.well_formed (hlevel props)
    (λ w. subst (λ (vs : List SumValue). All (λ v. v.sum < length c.args.model.now.sums) vs) (sym c.as_slice.ensures) (λ k d l. (w.values k d l).sum))

pub returns-clause-small : goal.returns-clause-small
returns-clause-small c =
    ∥∥₁_elim c.args.model.now.well_formed (hlevel props)
    (λ w. subst (λ (vs : List SumValue). All (λ v. unsigned_abs v.k ≤ 1000000) vs) (sym c.as_slice.ensures) (λ k d l. (w.values k d l).small))

pub returns-clause-few : goal.returns-clause-few
returns-clause-few c =
    ∥∥₁_elim c.args.model.now.well_formed (hlevel props)
    (λ w. subst (λ (vs : List SumValue). length vs ≤ 1000000) (sym c.as_slice.ensures) (omega (arith, w.limits.statements)))
