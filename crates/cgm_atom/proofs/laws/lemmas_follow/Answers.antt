-- The law is a lemma.
use Rattle.cgm_atom.proofs.Entailing.{lemmas_follow}
use Rattle.cgm_atom.proofs.laws.lemmas_follow.Goals as goal

pub returns : goal.returns
returns c = lemmas_follow
