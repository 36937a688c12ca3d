use Rattle.std.proofs.Common.{refl}
use Rattle.cgm_step.specs.Naming.{constraint_of}
use Rattle.cgm_trail.proofs.Replaying.{box_of_itself}
use Rattle.cgm_learn.proofs.Boxes.{box_inside}
use Rattle.cgm_learn.proofs.Following.{begun, conflict_found, some_is_not_none}
use Rattle.cgm_learn.proofs.grounds.Ground.take_conflict.Goals as goal

pub find-requires : goal.find-requires
find-requires c = c.requires.conflict.1.0

pub explain_conflict-requires-clause-named : goal.explain_conflict-requires-clause-named
explain_conflict-requires-clause-named c = rw c.problem-problem.ensures.problem c.in-Some.ensures.1

pub explain_conflict-requires-clause-need_limits : goal.explain_conflict-requires-clause-need_limits
explain_conflict-requires-clause-need_limits c = rw (c.problem-problem.ensures.problem, c.requires.first.whole) (box_of_itself c.args.self.now.problem.bounds (rw c.problem-problem.ensures.problem at c.recall_well_formed.ensures).proper)

pub explain_conflict-requires-clause-inside : goal.explain_conflict-requires-clause-inside
explain_conflict-requires-clause-inside c =
    rw c.requires.first.whole (box_inside c.args.self.now.problem.bounds c.args.walk.now.place.state (rw c.problem-problem.ensures.problem at c.recall_well_formed.ensures).proper.same_count c.requires.limits)

pub explain_conflict-requires-clause-conflict : goal.explain_conflict-requires-clause-conflict
explain_conflict-requires-clause-conflict c =
    conflict_found c.args.self.now c.args.walk.now.place.state c.args.walk.now.place.state c.args.conflict.now (constraint_of c.in-Some.found.named) c.requires.conflict refl c.in-Some.ensures.0

pub returns-in-None : goal.returns-in-None
returns-in-None c = absurd (some_is_not_none c.requires.conflict.0 _ c.requires.conflict.1.1 c.in-None.ensures)

pub returns-in_ok-add-in-Some-clause-needed : goal.returns-in_ok-add-in-Some-clause-needed
returns-in_ok-add-in-Some-clause-needed c =
    begun c.args.self.now c.args.walk.now c.explain_conflict.new.need c.add.new.self c.args.conflict.now (constraint_of c.in-Some.found.named) c.in-Some.found.carried
    c.requires.first c.in_ok-add-in-Some.ensures.hints c.in_ok-add-in-Some.ensures.bound c.in-Some.ensures.2 c.in_ok-add-in-Some.ensures.fits
    (c.requires.conflict.1.0, c.in-Some.ensures.0) c.recall_range.ensures c.explain_conflict.ensures.conflict (rw c.problem-problem.ensures.problem at c.explain_conflict.ensures.explained)
