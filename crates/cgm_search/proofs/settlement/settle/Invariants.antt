use Rattle.std.proofs.Common.{◌≡◌, ◌+◌, ◌^◌, ◌≤◌}
use Rattle.cgm_clauses.specs.StoreState.{all_clauses}
use Rattle.cgm_search.specs.Settling.{IsRoundName}
use Rattle.cgm_trail.specs.Steps.{IsPropagated}
use Rattle.cgm_search.proofs.settlement.settle.Given as goal

abbrev pub invariant-loop-hint : goal.invariant-loop-hint
invariant-loop-hint l = record {
  made : IsPropagated (IsRoundName l.problem (all_clauses l.fn.store)) l.fn.trail l.trail l.fn.left l.left;
  store : l.store ≡ l.fn.store;
  problem : l.trail.problem ≡ l.fn.trail.problem;
  room : l.trail.moves + l.left ≤ 2 ^ 62;
}

abbrev pub decreases-loop-hint : goal.decreases-loop-hint
decreases-loop-hint l = l.left
