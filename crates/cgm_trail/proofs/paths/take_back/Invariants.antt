use Rattle.std.proofs.Common.{◌≡◌, ◌-◌, ◌≤◌, length, take}
use Rattle.cgm_trail.specs.TrailState.{box_after}
use Rattle.cgm_trail.proofs.paths.take_back.Given as goal

abbrev pub invariant-loop-at : goal.invariant-loop-at
invariant-loop-at l = record {
  started : l.from ≤ l.at;
  known : l.at ≤ length l.changes;
  state : l.state ≡ box_after l.problem.bounds (take l.at l.changes);
}

abbrev pub decreases-loop-at : goal.decreases-loop-at
decreases-loop-at l = l.at - l.from
