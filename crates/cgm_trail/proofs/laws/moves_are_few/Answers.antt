use Rattle.cgm_trail.proofs.Ranking.{moves_are_few}
use Rattle.cgm_trail.proofs.laws.moves_are_few.Goals as goal

pub returns : goal.returns
returns c = moves_are_few
