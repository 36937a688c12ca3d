use Rattle.cgm_trail.proofs.Ranking.{moves_raise_rank}
use Rattle.cgm_trail.proofs.laws.moves_raise_rank.Goals as goal

pub returns : goal.returns
returns c = moves_raise_rank
