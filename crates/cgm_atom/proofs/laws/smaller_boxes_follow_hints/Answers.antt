-- The law is a lemma.
use Rattle.cgm_atom.proofs.Shrinking.{hints_smaller}
use Rattle.cgm_atom.proofs.laws.smaller_boxes_follow_hints.Goals as goal

pub returns : goal.returns
returns c = hints_smaller
