use Rattle.std.proofs.Common.{◌+◌, ℤ, drop, pos}
use Rattle.cgm_atom.specs.declared.constraints.Var.{Var}
use Rattle.cgm_atom.proofs.RowSums.{rest_at}
use Rattle.cgm_linear.proofs.RowSteps.{IsSweptSoFar, even_of, stopped_at, sweep_begins, sweep_ends_at, sweep_made, sweep_steps, sweep_waits}
use Rattle.cgm_linear.proofs.rows.tighten_by_terms.Goals as goal

pub loop-term-init : goal.loop-term-init
loop-term-init c =
    sweep_begins c.args.by c.args.row.now c.args.room c.args.trail.now c.args.left.now c.requires.claimed (even_of c.args.trail.now c.recall_trail.ensures) c.requires.budget

pub returns-in_err-make-clause-made : goal.returns-in_err-make-clause-made
returns-in_err-make-clause-made c =
    let terms = c.args.row.now.terms in
    let i = c.loop-term.term-index in
    sweep_made c.args.by c.args.row.now c.args.room c.args.trail.now c.args.left.now (drop i terms) i (pos 0, record { 0 = 0 }) c.loop-term.trail c.make.new.trail c.loop-term.left c.make.new.left c.kept_by_term-kept.result c.requires.claimed (rw c.as_slice-term-items.ensures at c.loop-term-test.true) c.loop-term.invariant (rw (c.state.ensures.state, c.as_slice-term-items.ensures) at c.kept_by_term-kept.ensures.atom) c.make.ensures.made

pub returns-in_err-make-clause-answer : goal.returns-in_err-make-clause-answer
returns-in_err-make-clause-answer c =
    let terms = c.args.row.now.terms in
    let i = c.loop-term.term-index in
    stopped_at _ c.args.by c.args.row.now c.args.trail.now c.make.new.trail c.make.new.left c.from_residual.result c.from_residual.ensures.1
    (sweep_waits c.args.by c.args.row.now c.args.room c.args.trail.now c.args.left.now (drop i terms) i (pos 0, record { 0 = 0 }) c.loop-term.trail c.make.new.trail c.loop-term.left c.kept_by_term-kept.result c.requires.claimed (rw c.as_slice-term-items.ensures at c.loop-term-test.true) c.loop-term.invariant (rw (c.state.ensures.state, c.as_slice-term-items.ensures) at c.kept_by_term-kept.ensures.atom)
    c.in_err-make.ensures.answer)

pub returns-then-not-branch-clause-made : goal.returns-then-not-branch-clause-made
returns-then-not-branch-clause-made c =
    let terms = c.args.row.now.terms in
    let i = c.loop-term.term-index in
    sweep_made c.args.by c.args.row.now c.args.room c.args.trail.now c.args.left.now (drop i terms) i (pos 0, record { 0 = 0 }) c.loop-term.trail c.make.new.trail c.loop-term.left c.make.new.left c.kept_by_term-kept.result c.requires.claimed (rw c.as_slice-term-items.ensures at c.loop-term-test.true) c.loop-term.invariant (rw (c.state.ensures.state, c.as_slice-term-items.ensures) at c.kept_by_term-kept.ensures.atom) c.make.ensures.made

pub returns-then-not-branch-clause-answer : goal.returns-then-not-branch-clause-answer
returns-then-not-branch-clause-answer c =
    let terms = c.args.row.now.terms in
    let i = c.loop-term.term-index in
    sweep_waits c.args.by c.args.row.now c.args.room c.args.trail.now c.args.left.now (drop i terms) i (pos 0, record { 0 = 0 }) c.loop-term.trail c.make.new.trail c.loop-term.left c.kept_by_term-kept.result c.requires.claimed (rw c.as_slice-term-items.ensures at c.loop-term-test.true) c.loop-term.invariant (rw (c.state.ensures.state, c.as_slice-term-items.ensures) at c.kept_by_term-kept.ensures.atom)
    (rw c.if-not-branch.true at c.in_ok-make.ensures.answer)

pub loop-term-preserved : goal.loop-term-preserved
loop-term-preserved c =
    let r = c.args.row.now in
    let old = c.args.trail.now in
    let now = c.loop-term.trail in
    let i = c.loop-term.term-index in
    let d : ℤ × Var = (pos 0, record { 0 = 0 }) in
    sweep_steps c.args.by r c.args.room old c.args.left.now (drop (i + 1) r.terms) i d now c.make.new.trail c.loop-term.left c.make.new.left c.kept_by_term-kept.result c.requires.claimed (rw c.as_slice-term-items.ensures at c.loop-term-test.true)
    (rest_at (λ rest. IsSweptSoFar c.args.by r c.args.room old c.args.left.now rest now c.loop-term.left) r.terms i d (rw c.as_slice-term-items.ensures at c.loop-term-test.true) c.loop-term.invariant)
    (rw (c.state.ensures.state, c.as_slice-term-items.ensures) at c.kept_by_term-kept.ensures.atom) (rw (c.state.ensures.state, c.as_slice-term-items.ensures) at c.kept_by_term-kept.ensures.kept.tightened) c.make.ensures.made
    (rw c.if-not-branch.false at c.in_ok-make.ensures.answer)

pub returns-clause-answer : goal.returns-clause-answer
returns-clause-answer c =
    sweep_ends_at c.args.by c.args.row.now c.args.room c.args.trail.now c.args.left.now c.loop-term.term-index c.loop-term.trail c.loop-term.left c.requires.claimed c.recall_trail.ensures
    (rw c.as_slice-term-items.ensures at c.loop-term-test.false) c.loop-term.invariant
