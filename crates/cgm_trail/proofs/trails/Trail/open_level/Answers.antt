use Rattle.cgm_trail.proofs.Ranking.{counted_more, rank_raised}
use Rattle.cgm_trail.proofs.trails.Trail.open_level.Goals as goal

pub invariant_of-self-2 : goal.invariant_of-self-2
invariant_of-self-2 c =
    rw c.in_ok-decide.ensures.ok
    (record { counted = counted_more _ _ _ _ _ c.self.invariant.counted (rank_raised c.self.inside.path.problem.bounds c.self.inside.path.changes _) })
