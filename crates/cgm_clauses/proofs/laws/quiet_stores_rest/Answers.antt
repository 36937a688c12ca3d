use Rattle.cgm_clauses.proofs.Naming.{quiet_store}
use Rattle.cgm_clauses.proofs.laws.quiet_stores_rest.Goals as goal

pub returns : goal.returns
returns c = quiet_store
