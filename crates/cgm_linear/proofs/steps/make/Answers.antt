use Rattle.std.proofs.Common.{◌∙◌, ap}
use Rattle.cgm_trail.specs.TrailState.{box_of}
use Rattle.cgm_linear.proofs.RowSteps.{box_tightened}
use Rattle.cgm_linear.proofs.steps.make.Goals as goal

pub returns-clause-answer : goal.returns-clause-answer
returns-clause-answer c =
    ap box_of c.in_ok-step.ensures.trail ∙ box_tightened c.args.trail.now c.args.atom c.args.by
