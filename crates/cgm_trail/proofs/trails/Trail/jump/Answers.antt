use Rattle.std.proofs.Common.{refl}
use Rattle.cgm_trail.proofs.Ranking.{counted_more, rank_jumped}
use Rattle.cgm_trail.proofs.trails.Trail.jump.Goals as goal

pub invariant_of-self : goal.invariant_of-self
invariant_of-self c =
    let v = c.recall_path.ensures in
    rw c.jump.ensures
    (record {
      counted =
          counted_more _ _ _ _ _ c.self.invariant.counted
          (rank_jumped c.self.inside.path.problem.bounds c.self.inside.path.changes c.args.level _ _ v.valid.proper v.changes (rw (← c.self.view_is) at c.requires.earlier) refl);
    })
