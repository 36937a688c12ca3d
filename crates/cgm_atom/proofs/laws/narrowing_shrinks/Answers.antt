-- The law is a lemma.
use Rattle.cgm_atom.proofs.Shrinking.{narrowing_shrinks}
use Rattle.cgm_atom.proofs.laws.narrowing_shrinks.Goals as goal

pub returns : goal.returns
returns c = narrowing_shrinks
