use Rattle.cgm_learn.proofs.Lessons.{lesson_accepted}
use Rattle.cgm_learn.proofs.analysis.analyse.Goals as goal

pub learn-requires-clause-conflict : goal.learn-requires-clause-conflict
learn-requires-clause-conflict c = rw c.of.ensures c.requires.conflict

pub returns-clause-accepted : goal.returns-clause-accepted
returns-clause-accepted c =
    lesson_accepted c.args.problem.now c.args.log.now c.args.pending.now c.of.result c.args.trail.now c.learn.result c.of.ensures c.learn.ensures
