-- The law is a lemma.
use Rattle.cgm_atom.proofs.LaterBounds.{follows_later}
use Rattle.cgm_atom.proofs.laws.later_bounds_follow.Goals as goal

pub returns : goal.returns
returns c = follows_later
