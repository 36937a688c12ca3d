use Rattle.std.proofs.Common.{rules}
use Rattle.cgm_trail.specs.TrailState.{box_of}
use Rattle.cgm_rows_problems.specs.Driving.{IsGivenBy}
use Rattle.cgm_rows_problems.proofs.Reasons.{driven_by_hint}
use Rattle.cgm_rows_problems.proofs.lessons.follow.Goals as goal

pub returns : goal.returns
returns c =
    let given : IsGivenBy c.args.problem.now c.args.log.now (box_of c.args.trail.now) c.args.by c.args.atom = search rules in
    driven_by_hint c.args.problem.now c.args.log.now c.args.trail.now c.tighten.new.self c.args.atom c.args.by c.requires.driven given c.in_ok-tighten.ensures.ok
