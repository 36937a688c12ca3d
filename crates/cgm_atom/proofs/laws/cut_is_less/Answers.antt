-- The law is a lemma.
use Rattle.cgm_atom.proofs.Cutting.{cut_is_less}
use Rattle.cgm_atom.proofs.laws.cut_is_less.Goals as goal

pub returns : goal.returns
returns c = cut_is_less
