use Rattle.cgm_trail.proofs.Ranking.{rank_is_bounded}
use Rattle.cgm_trail.proofs.laws.rank_is_bounded.Goals as goal

pub returns : goal.returns
returns c = rank_is_bounded
