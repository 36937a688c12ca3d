-- The law is a lemma.
use Rattle.cgm_core.proofs.EventLists.{all_grown}
use Rattle.cgm_core.proofs.laws.logs_grow.Goals as goal

pub returns : goal.returns
returns c = all_grown
