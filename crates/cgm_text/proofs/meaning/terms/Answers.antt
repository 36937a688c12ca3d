use Rattle.std.proofs.Common.{◌∙◌}
use Rattle.cgm_text.specs.Meaning.{term_of}
use Rattle.cgm_text.specs.Trees.{term_in}
use Rattle.cgm_text.proofs.Meanings.{pushed_all, pushed_at}
use Rattle.cgm_text.proofs.meaning.terms.Goals as goal

pub loop-other-preserved : goal.loop-other-preserved
loop-other-preserved c =
    let m = c.args.builder.now in
    let line = c.args.line.now in
    pushed_at (term_of m) (term_in line) c.args.others.now c.loop-other.other-index _ (term_of m (term_in line c.args.first.now)) _ c.loop-other.terms.items _ c.loop-other-test.true c.term-in-loop-other.ensures c.loop-other.invariant c.in_ok-push-2.ensures.items

pub returns : goal.returns
returns c =
    let m = c.args.builder.now in
    let line = c.args.line.now in
    c.of.ensures ∙ pushed_all (term_of m) (term_in line) c.args.others.now c.loop-other.other-index (term_of m (term_in line c.args.first.now)) c.loop-other.terms.items c.loop-other-test.false c.loop-other.invariant
