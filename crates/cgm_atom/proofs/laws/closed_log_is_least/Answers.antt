-- The law is a lemma.
use Rattle.cgm_atom.proofs.Concluding.{closed_log_is_least}
use Rattle.cgm_atom.proofs.laws.closed_log_is_least.Goals as goal

pub returns : goal.returns
returns c = closed_log_is_least
