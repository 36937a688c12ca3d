-- The trail that the fields of a `Trail` keep.
use Rattle.std.specs.Prelude.{◌+◌, ◌-◌, ◌*◌, ◌^◌, ◌≤◌}
use Rattle.cgm_trail.specs.declared.trails.Trail.TheInside.{Inside}
use Rattle.cgm_trail.specs.Rank.{rank, slack}
use Rattle.cgm_trail.specs.TrailState.{TrailState}

abbrev pub trail_state : Inside → TrailState
trail_state t =
    record { problem = t.path.problem; changes = t.path.changes; moves = t.moves; restarts = t.restarts }

pub record IsCounted (t : TrailState) : Type 0 where
  pub counted : t.moves ≤ t.restarts * (2 ^ (slack t.problem.bounds + 1) - 1) + rank t.problem.bounds t.changes
