use Rattle.cgm_clauses.proofs.Naming.{forgotten_contains}
use Rattle.cgm_clauses.proofs.laws.forgetting_adds_nothing.Goals as goal

pub returns : goal.returns
returns c = forgotten_contains
