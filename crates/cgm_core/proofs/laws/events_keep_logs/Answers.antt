-- The law is a lemma.
use Rattle.cgm_core.proofs.EventLists.{events_keep}
use Rattle.cgm_core.proofs.laws.events_keep_logs.Goals as goal

pub returns : goal.returns
returns c = events_keep
