use Rattle.cgm_clauses.proofs.Naming.{landed_known}
use Rattle.cgm_clauses.proofs.stores.ClauseStore.land.Goals as goal

pub invariant_of-self : goal.invariant_of-self
invariant_of-self c = record {
  clauses = c.self.invariant.clauses;
  added = rw c.land_all.ensures (landed_known c.self.inside.vars c.args.first c.self.inside.added.items c.self.invariant.added);
}
