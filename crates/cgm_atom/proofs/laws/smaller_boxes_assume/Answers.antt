-- The law is a lemma.
use Rattle.cgm_atom.proofs.Shrinking.{assumed_smaller}
use Rattle.cgm_atom.proofs.laws.smaller_boxes_assume.Goals as goal

pub returns : goal.returns
returns c = assumed_smaller
