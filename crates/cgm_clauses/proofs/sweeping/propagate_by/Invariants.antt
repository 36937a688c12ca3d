use Rattle.std.proofs.Common.{◌≡◌, ◌+◌, ◌++◌, ◌^◌, ◌≤◌}
use Rattle.cgm_trail.specs.Steps.{IsPropagated}
use Rattle.cgm_clauses.specs.StoreState.{IsPairIn}
use Rattle.cgm_clauses.proofs.sweeping.propagate_by.Given as goal

abbrev pub invariant-loop-h : goal.invariant-loop-h
invariant-loop-h l = record {
  made : IsPropagated (IsPairIn (l.clauses ++ l.added)) l.fn.trail l.trail l.fn.left l.left;
  problem : l.trail.problem ≡ l.fn.trail.problem;
  room : l.trail.moves + l.left ≤ 2 ^ 62;
}

abbrev pub decreases-loop-h : goal.decreases-loop-h
decreases-loop-h l = l.left
