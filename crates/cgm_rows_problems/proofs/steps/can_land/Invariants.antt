use Rattle.std.specs.List.{AllWithin}
use Rattle.cgm_trail.specs.Landing.{CanReasonLand}
use Rattle.cgm_rows_problems.proofs.steps.can_land.Given as goal

abbrev pub invariant-loop-n : goal.invariant-loop-n
invariant-loop-n l = AllWithin (λ c. CanReasonLand l.first c.reason) l.trail.changes 0 l.n
