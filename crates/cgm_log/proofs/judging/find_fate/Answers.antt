use Rattle.std.proofs.Common.{length, sym}
use Rattle.cgm_step.proofs.Accepted.{best_values_fit, objectives_known}
use Rattle.cgm_log.proofs.judging.find_fate.Goals as goal

pub is_less-requires-clause-others_known : goal.is_less-requires-clause-others_known
is_less-requires-clause-others_known c =
    let p = c.args.problem.now in
    let log = c.args.log.now in
    let valid = c.objectives-objectives.ensures.valid in
    objectives_known p c.objectives-objectives.result.now c.in-Some.best.now c.objectives-objectives.ensures.objectives valid
    (best_values_fit p log (length log.bests) c.in-Some.best.now valid c.requires.accepted (sym c.in-Some.ensures))
