use Rattle.std.proofs.Common.{◌∙◌}
use Rattle.cgm_text.proofs.Right.{term_fails, term_passes, terms_end}
use Rattle.cgm_text.proofs.names.terms_fault.Goals as goal

pub returns-in-Some : goal.returns-in-Some
returns-in-Some c = λ after.
    c.loop-term.invariant after ∙ term_fails c.args.builder.now c.args.line.now c.args.terms.now c.loop-term.term-index _ c.in-Some.kind c.loop-term-test.true c.in-Some.ensures after

pub loop-term-preserved : goal.loop-term-preserved
loop-term-preserved c = λ after.
    c.loop-term.invariant after ∙ term_passes c.args.builder.now c.args.line.now c.args.terms.now c.loop-term.term-index _ c.loop-term-test.true c.in-None.ensures after

pub returns : goal.returns
returns c = λ after.
    c.loop-term.invariant after ∙ terms_end c.args.builder.now c.args.line.now c.args.terms.now c.loop-term.term-index c.loop-term-test.false after
