use Rattle.std.proofs.Common.{refl}
use Rattle.cgm_atom.specs.Constraints.{of_row}
use Rattle.cgm_trail.specs.TrailState.{box_of}
use Rattle.cgm_linear.proofs.RowSteps.{refusal_ends, refusal_given, refusal_waits, refused_guarded, refused_unguarded, stopped_at}
use Rattle.cgm_linear.proofs.rows.refuse_guard.Goals as goal

pub returns-in_err-make-in-Some-negated-clause-made :
    goal.returns-in_err-make-in-Some-negated-clause-made
returns-in_err-make-in-Some-negated-clause-made c =
    c.make.ensures.made (of_row c.args.row.now)
    (refusal_given c.args.trail.now c.args.row.now c.in-Some.guard c.in-Some-negated.opposite c.state.ensures.valid c.requires.row c.in-Some.is c.requires.unmet (rw c.state.ensures.state at c.in-Some-negated.ensures))

pub returns-in_err-make-in-Some-negated-clause-answer :
    goal.returns-in_err-make-in-Some-negated-clause-answer
returns-in_err-make-in-Some-negated-clause-answer c =
    stopped_at _ c.args.by c.args.row.now c.args.trail.now c.make.new.trail c.make.new.left c.from_residual.result c.from_residual.ensures.1
    (refusal_waits c.args.trail.now c.make.new.trail c.args.row.now c.in-Some.guard c.in-Some-negated.opposite c.state.ensures.valid c.requires.row c.in-Some.is c.requires.unmet (rw c.state.ensures.state at c.in-Some-negated.ensures) c.in_err-make-in-Some-negated.ensures.answer)

pub returns-in-None-clause-answer : goal.returns-in-None-clause-answer
returns-in-None-clause-answer c =
    (refl, refused_unguarded (box_of c.args.trail.now) c.args.row.now c.in-None.is c.requires.unmet, refl)

pub returns-in-None-negated-clause-answer : goal.returns-in-None-negated-clause-answer
returns-in-None-negated-clause-answer c =
    (refl, refused_guarded (box_of c.args.trail.now) c.args.row.now c.in-Some.guard c.in-Some.is c.requires.unmet (rw c.state.ensures.state at c.in-None-negated.ensures), refl)

pub returns-then-branch-clause-made : goal.returns-then-branch-clause-made
returns-then-branch-clause-made c =
    c.make.ensures.made (of_row c.args.row.now)
    (refusal_given c.args.trail.now c.args.row.now c.in-Some.guard c.in-Some-negated.opposite c.state.ensures.valid c.requires.row c.in-Some.is c.requires.unmet (rw c.state.ensures.state at c.in-Some-negated.ensures))

pub returns-then-branch-clause-answer : goal.returns-then-branch-clause-answer
returns-then-branch-clause-answer c =
    refusal_ends c.args.trail.now c.make.new.trail c.args.row.now c.in-Some.guard c.in-Some-negated.opposite c.state.ensures.valid c.requires.row c.in-Some.is c.requires.unmet (rw c.state.ensures.state at c.in-Some-negated.ensures)
    (rw c.if-branch.true at c.in_ok-make-in-Some-negated.ensures.answer)

pub returns-else-branch-clause-made : goal.returns-else-branch-clause-made
returns-else-branch-clause-made c =
    c.make.ensures.made (of_row c.args.row.now)
    (refusal_given c.args.trail.now c.args.row.now c.in-Some.guard c.in-Some-negated.opposite c.state.ensures.valid c.requires.row c.in-Some.is c.requires.unmet (rw c.state.ensures.state at c.in-Some-negated.ensures))

pub returns-else-branch-clause-answer : goal.returns-else-branch-clause-answer
returns-else-branch-clause-answer c =
    refusal_waits c.args.trail.now c.make.new.trail c.args.row.now c.in-Some.guard c.in-Some-negated.opposite c.state.ensures.valid c.requires.row c.in-Some.is c.requires.unmet (rw c.state.ensures.state at c.in-Some-negated.ensures)
    (rw c.if-branch.false at c.in_ok-make-in-Some-negated.ensures.answer)
