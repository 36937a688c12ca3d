use Rattle.cgm_step.proofs.Touching.{AreFollowed}
use Rattle.cgm_step.proofs.narrowing.conflict_at.Given as goal

abbrev pub invariant-loop-i : goal.invariant-loop-i
invariant-loop-i l = AreFollowed l.problem l.log l.hints l.fn.bounds l.i l.bounds
