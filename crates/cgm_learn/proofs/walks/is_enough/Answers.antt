use Rattle.cgm_learn.proofs.Changes.{place_counts}
use Rattle.cgm_learn.proofs.walks.is_enough.Goals as goal

pub is_inside-requires-clause-inner : goal.is_inside-requires-clause-inner
is_inside-requires-clause-inner c =
    (place_counts c.args.problem.now c.args.trail.now c.args.base.now c.vars.result c.requires.problem c.recall_trail.ensures c.requires.base c.vars.ensures.count).0

pub is_inside-requires-clause-inner_upper : goal.is_inside-requires-clause-inner_upper
is_inside-requires-clause-inner_upper c =
    (place_counts c.args.problem.now c.args.trail.now c.args.base.now c.vars.result c.requires.problem c.recall_trail.ensures c.requires.base c.vars.ensures.count).1
