use Rattle.std.proofs.Common.{arith}
use Rattle.cgm_atom.proofs.CutParts.{part_past, part_there}
use Rattle.cgm_step.proofs.naming.find_part.Goals as goal

pub returns-then-part-max : goal.returns-then-part-max
returns-then-part-max c =
    part_past c.args.values.now c.objectives-objectives.result.now c.args.problem.now.objectives c.args.part c.objectives-objectives.ensures.objectives (omega arith)

pub returns : goal.returns
returns c =
    part_there c.args.problem.now c.args.values.now c.objectives-objectives.result.now c.args.part c.objectives-objectives.ensures.objectives c.objectives-objectives.ensures.valid c.requires (omega arith)
