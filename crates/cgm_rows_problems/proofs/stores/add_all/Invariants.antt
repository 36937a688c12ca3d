use Rattle.std.proofs.Common.{◌≡◌}
use Rattle.cgm_clauses.specs.StoreState.{CanNamesLand, IsStoreOf}
use Rattle.cgm_rows_problems.proofs.stores.add_all.Given as goal

abbrev pub invariant-loop-statement : goal.invariant-loop-statement
invariant-loop-statement l = record {
  store : IsStoreOf l.problem l.store;
  names : CanNamesLand l.first l.store.added;
}
