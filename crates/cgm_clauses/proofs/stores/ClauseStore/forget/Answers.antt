use Rattle.cgm_clauses.specs.StoreState.{HasKnownVariables}
use Rattle.cgm_clauses.proofs.Naming.{forgotten_all}
use Rattle.cgm_clauses.proofs.stores.ClauseStore.forget.Goals as goal

pub invariant_of-self : goal.invariant_of-self
invariant_of-self c = record {
  clauses = c.self.invariant.clauses;
  added = forgotten_all (HasKnownVariables c.self.inside.vars) c.args.name.now c.self.inside.added.items _ c.forget_first.ensures c.self.invariant.added;
}
