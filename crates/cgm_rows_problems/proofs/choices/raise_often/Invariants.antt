use Rattle.std.proofs.Common.{◌≡◌, ◌-◌, length}
use Rattle.cgm_rows_problems.proofs.choices.raise_often.Given as goal

abbrev pub invariant-loop-done : goal.invariant-loop-done
invariant-loop-done l = length l.activity.weights ≡ length l.fn.activity.weights

abbrev pub decreases-loop-done : goal.decreases-loop-done
decreases-loop-done l = l.times - l.done
