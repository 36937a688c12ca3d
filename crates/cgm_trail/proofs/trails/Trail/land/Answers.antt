use Rattle.cgm_trail.proofs.Ranking.{counted_same}
use Rattle.cgm_trail.proofs.Renaming.{rank_landed}
use Rattle.cgm_trail.proofs.trails.Trail.land.Goals as goal

pub invariant_of-self : goal.invariant_of-self
invariant_of-self c =
    rw c.land.ensures
    (record {
      counted =
          counted_same _ _ _ _ c.self.invariant.counted
          (rank_landed c.args.first c.self.inside.path.problem.bounds c.self.inside.path.changes);
    })
