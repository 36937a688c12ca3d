use Rattle.std.proofs.Common.{◌≡◌, ◌-◌, ◌≤◌, length, take}
use Rattle.cgm_trail.specs.TrailState.{box_after}
use Rattle.cgm_rows_problems.proofs.steps.take_back.Given as goal

abbrev pub invariant-loop-at : goal.invariant-loop-at
invariant-loop-at l = record {
  started : l.from ≤ l.at;
  known : l.at ≤ length l.trail.changes;
  state : l.bounds ≡ box_after l.trail.problem.bounds (take l.at l.trail.changes);
}

abbrev pub decreases-loop-at : goal.decreases-loop-at
decreases-loop-at l = l.at - l.from
