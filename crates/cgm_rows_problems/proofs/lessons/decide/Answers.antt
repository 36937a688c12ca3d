use Rattle.cgm_rows_problems.proofs.Reasons.{driven_by_decision}
use Rattle.cgm_rows_problems.proofs.lessons.decide.Goals as goal

pub returns : goal.returns
returns c =
    driven_by_decision c.args.problem.now c.args.log.now c.args.trail.now c.open_level.new.self c.args.atom c.requires c.in_ok-open_level.ensures.ok
