-- The law is a lemma.
use Rattle.cgm_atom.proofs.StateLemmas.{closed_log_ends}
use Rattle.cgm_atom.proofs.laws.closed_log_ends.Goals as goal

pub returns : goal.returns
returns c = closed_log_ends
