use Rattle.std.proofs.Common.{ℕ, ◌<◌, get_or}
use Rattle.cgm_model.specs.Assignment.{RefinementIsTrue}
use Rattle.cgm_model.specs.Model.{lists_of}
use Rattle.cgm_model.specs.Realization.{Refines}
use Rattle.cgm_model.proofs.realization.has_true_refinement.Given as goal

abbrev pub invariant-loop-number : goal.invariant-loop-number
invariant-loop-number l =
    (k : ℕ) → k < l.number-index → (d : ℕ) → ¬ (Refines (lists_of l.model) (get_or l.number-items k d) l.element × RefinementIsTrue l.assignment (get_or l.number-items k d))
