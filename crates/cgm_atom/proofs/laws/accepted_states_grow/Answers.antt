-- The law is a lemma.
use Rattle.cgm_atom.proofs.StateLemmas.{accepted_states_grow}
use Rattle.cgm_atom.proofs.laws.accepted_states_grow.Goals as goal

pub returns : goal.returns
returns c = accepted_states_grow
