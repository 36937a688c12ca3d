use Rattle.cgm_trail.proofs.Replaying.{box_after-of, box_of_itself}
use Rattle.cgm_trail.proofs.paths.Path.recall_path.Goals as goal

pub returns-clause-place : goal.returns-clause-place
returns-clause-place c =
    let i = c.self.invariant in
    rw (← c.self.view_is) (box_after-of _ _ c.self.inside.changes.items (box_of_itself c.self.inside.problem.bounds i.problem.proper) i.led.made)
