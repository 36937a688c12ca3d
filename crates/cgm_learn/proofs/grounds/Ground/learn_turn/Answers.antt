use Rattle.std.proofs.Common.{◌∙◌, refl}
use Rattle.cgm_learn.proofs.Following.{if_none}
use Rattle.cgm_learn.proofs.Lessons.{lesson_at_turn}
use Rattle.cgm_learn.proofs.grounds.Ground.learn_turn.Goals as goal

pub negations-requires : goal.negations-requires
negations-requires c = rw c.problem-problem.ensures.problem c.requires.enough.limits

pub returns-in_err-atoms : goal.returns-in_err-atoms
returns-in_err-atoms c = if_none _ _ c.from_residual.result c.from_residual.ensures.1

pub opposite-last-requires : goal.opposite-last-requires
opposite-last-requires c = c.requires.enough.size

pub returns-in_err-push : goal.returns-in_err-push
returns-in_err-push c = if_none _ _ c.from_residual-in_err-push.result c.from_residual-in_err-push.ensures.1

pub go_back_within-requires-clause-place : goal.go_back_within-requires-clause-place
go_back_within-requires-clause-place c = c.requires.place

pub go_back_within-requires-clause-inside : goal.go_back_within-requires-clause-inside
go_back_within-requires-clause-inside c = c.requires.enough.inside

pub returns : goal.returns
returns c =
    lesson_at_turn c.args.self.now c.args.trail.now _ c.args.walk c.args.turn c.go_back_within.new.place c.in_ok-atoms.atoms.items c.opposite-last.result
    c.problem-problem.ensures.valid (rw c.problem-problem.ensures.problem at c.recall_well_formed.ensures) c.requires (rw c.problem-problem.ensures.problem at c.in_ok-atoms.ensures) c.opposite-last.ensures.negation c.opposite-last.ensures.range
    c.go_back_within.ensures.place c.go_back_within.ensures.earlier c.go_back_within.ensures.inside
    (c.of-atoms.ensures ∙ c.in_ok-push.ensures.items) (c.of-hints.ensures ∙ c.reversed.ensures) refl refl
