use Rattle.std.proofs.Common.{◌≡◌, length}
use Rattle.cgm_atom.specs.Instance.{var_count}
use Rattle.cgm_clauses.specs.StoreState.{IsStoreOf}
use Rattle.cgm_rows_problems.proofs.trails.follow_all.Given as goal

abbrev pub invariant-loop-statement : goal.invariant-loop-statement
invariant-loop-statement l = record {
  problem : l.trail.problem ≡ l.problem;
  store : IsStoreOf l.problem l.store;
  order : length l.activity.weights ≡ var_count l.problem;
}
