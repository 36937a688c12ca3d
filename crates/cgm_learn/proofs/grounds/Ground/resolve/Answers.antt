use Rattle.cgm_step.specs.Naming.{constraint_of}
use Rattle.cgm_learn.proofs.Following.{cause_of, resolved, some_is_not_none}
use Rattle.cgm_learn.proofs.grounds.Ground.resolve.Goals as goal

pub find-requires : goal.find-requires
find-requires c = c.requires.cause.1.0

pub explain_atom-requires-clause-named : goal.explain_atom-requires-clause-named
explain_atom-requires-clause-named c = rw c.problem-problem.ensures.problem c.in-Some.ensures.1

pub explain_atom-requires-clause-need_limits : goal.explain_atom-requires-clause-need_limits
explain_atom-requires-clause-need_limits c = rw c.problem-problem.ensures.problem c.requires.rest.limits

pub explain_atom-requires-clause-inside : goal.explain_atom-requires-clause-inside
explain_atom-requires-clause-inside c = c.requires.rest.inside

pub explain_atom-requires-clause-undecided : goal.explain_atom-requires-clause-undecided
explain_atom-requires-clause-undecided c = c.requires.rest.undecided

pub explain_atom-requires-clause-size : goal.explain_atom-requires-clause-size
explain_atom-requires-clause-size c = c.requires.rest.size

pub explain_atom-requires-clause-given : goal.explain_atom-requires-clause-given
explain_atom-requires-clause-given c =
    cause_of c.args.self.now c.args.walk.now.place.state c.args.hint.now c.args.atom (constraint_of c.in-Some.found.named) c.requires.cause c.in-Some.ensures.0

pub returns-in-None : goal.returns-in-None
returns-in-None c = absurd (some_is_not_none c.requires.cause.0 _ c.requires.cause.1.1 c.in-None.ensures)

pub returns-in_ok-add-in-Some-clause-needed : goal.returns-in_ok-add-in-Some-clause-needed
returns-in_ok-add-in-Some-clause-needed c =
    resolved c.args.self.now c.args.walk.now c.explain_atom.new.need c.add.new.self c.args.hint.now c.args.atom (constraint_of c.in-Some.found.named) c.in-Some.found.carried
    c.requires.rest c.in_ok-explain_atom-in-Some.ensures.led (rw c.problem-problem.ensures.problem at c.in_ok-explain_atom-in-Some.ensures.explained) c.in_ok-add-in-Some.ensures.hints c.in_ok-add-in-Some.ensures.bound c.in-Some.ensures.2 c.in_ok-add-in-Some.ensures.fits
    (c.requires.cause.1.0, c.in-Some.ensures.0) c.recall_range.ensures
