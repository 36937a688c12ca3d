use Rattle.cgm_trail.proofs.Cuts.{length-places}
use Rattle.cgm_trail.proofs.trails.Trail.level.Goals as goal

pub returns-clause-level : goal.returns-clause-level
returns-clause-level c =
    rw c.starts.ensures (rw (← c.self.view_is) (length-places 0 c.self.inside.path.changes))
