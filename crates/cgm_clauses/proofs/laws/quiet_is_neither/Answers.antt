use Rattle.cgm_clauses.proofs.Units.{quiet_neither}
use Rattle.cgm_clauses.proofs.laws.quiet_is_neither.Goals as goal

pub returns : goal.returns
returns c = quiet_neither
