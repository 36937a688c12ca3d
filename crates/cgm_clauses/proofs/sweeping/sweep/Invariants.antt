use Rattle.std.proofs.Common.{◌≡◌, ◌+◌, ◌^◌, ◌≤◌, take}
use Rattle.cgm_trail.specs.Steps.{IsPropagated}
use Rattle.cgm_trail.specs.TrailState.{box_of}
use Rattle.cgm_clauses.specs.StoreState.{IsPairIn}
use Rattle.cgm_clauses.specs.Sweeping.{AreQuiet}
use Rattle.cgm_clauses.proofs.sweeping.sweep.Given as goal

abbrev pub invariant-loop-named : goal.invariant-loop-named
invariant-loop-named l = record {
  made : IsPropagated (IsPairIn l.clauses) l.fn.trail l.trail l.fn.left l.left;
  quiet : l.left ≡ l.fn.left → AreQuiet (box_of l.trail) (take l.named-index l.clauses);
  problem : l.trail.problem ≡ l.fn.trail.problem;
  room : l.trail.moves + l.left ≤ 2 ^ 62;
}
