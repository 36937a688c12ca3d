use Rattle.std.proofs.Common.{◌+◌, ◌^◌, ◌≤◌, add-one}
use Rattle.cgm_trail.specs.Rank.{rank, slack}
use Rattle.cgm_trail.proofs.Ranking.{counted_restart, rank_limit}
use Rattle.cgm_trail.proofs.trails.Trail.restart.Goals as goal

pub invariant_of-self : goal.invariant_of-self
invariant_of-self c =
    let v = c.recall_path.ensures in
    let b = c.self.inside.path.problem.bounds in
    let limit : rank b c.self.inside.path.changes + 2 ≤ 2 ^ (slack b + 1) = rw add-one (rank_limit b c.self.inside.path.changes v.valid.proper v.changes) in
    rw c.cut.ensures
    (record { counted = counted_restart _ _ _ _ _ c.self.invariant.counted limit })
