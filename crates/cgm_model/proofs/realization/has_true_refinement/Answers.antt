use Rattle.std.proofs.Common.{arith}
use Rattle.std.proofs.Math.Logic.{∥∥₁_elim}
use Rattle.std.proofs.Props.{props}
use Rattle.std.proofs.lemmas.Bool.{false≢true}
use Rattle.cgm_model.specs.Model.{lists_of}
use Rattle.cgm_model.proofs.Refined.{none_is_true}
use Rattle.cgm_model.proofs.realization.has_true_refinement.Goals as goal

pub returns : goal.returns
returns c = (
  λ e. absurd (false≢true e),
  λ w.
      ∥∥₁_elim c.args.model.now.known (hlevel props)
      (λ facts.
      let none = none_is_true (lists_of c.args.model.now) c.args.assignment.now c.args.element c.args.model.now.facts.by_target.items c.by_target-number-items.result.now facts.covered c.by_target-number-items.ensures in
      absurd (none (λ k l. c.loop-number.invariant k (omega arith)) w)),
)
