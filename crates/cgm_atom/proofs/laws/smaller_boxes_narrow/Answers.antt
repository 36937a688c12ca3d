-- The law is a lemma.
use Rattle.cgm_atom.proofs.Shrinking.{narrowing_smaller}
use Rattle.cgm_atom.proofs.laws.smaller_boxes_narrow.Goals as goal

pub returns : goal.returns
returns c = narrowing_smaller
