-- The law is a lemma.
use Rattle.cgm_atom.proofs.LaterBounds.{all_bests_descend}
use Rattle.cgm_atom.proofs.laws.bests_descend.Goals as goal

pub returns : goal.returns
returns c = all_bests_descend
