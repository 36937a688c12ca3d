-- The law is a lemma.
use Rattle.cgm_log.proofs.LaterLandings.{proper_later}
use Rattle.cgm_log.proofs.laws.proper_batches_stay.Goals as goal

pub returns : goal.returns
returns c = proper_later
