-- The store that the fields of a `ClauseStore` keep.
use Rattle.std.specs.List.{All}
use Rattle.cgm_clauses.specs.declared.stores.ClauseStore.TheInside.{Inside}
use Rattle.cgm_clauses.specs.StoreState.{HasKnownVariables, StoreState}

abbrev pub store_state : Inside → StoreState
store_state s = record { vars = s.vars; clauses = s.clauses.items; added = s.added.items }

-- each variable exists
pub record IsStore (s : StoreState) : Type 0 where
  pub clauses : All (HasKnownVariables s.vars) s.clauses
  pub added : All (HasKnownVariables s.vars) s.added
