use Rattle.std.proofs.Common.{◌∙◌}
use Rattle.cgm_text.specs.Meaning.{element_named}
use Rattle.cgm_text.specs.Trees.{word_in}
use Rattle.cgm_text.proofs.Meanings.{pushed_all, pushed_at}
use Rattle.cgm_text.proofs.meaning.elements.Goals as goal

pub loop-w-preserved : goal.loop-w-preserved
loop-w-preserved c =
    let m = c.args.builder.now in
    let line = c.args.line.now in
    pushed_at (element_named m) (word_in line) c.args.others.now c.loop-w.w-index _ (element_named m (word_in line c.args.first)) _ c.loop-w.numbers.items _ c.loop-w-test.true c.element-in-loop-w.ensures c.loop-w.invariant c.in_ok-push-2.ensures.items

pub returns : goal.returns
returns c =
    let m = c.args.builder.now in
    let line = c.args.line.now in
    c.of.ensures ∙ pushed_all (element_named m) (word_in line) c.args.others.now c.loop-w.w-index (element_named m (word_in line c.args.first)) c.loop-w.numbers.items c.loop-w-test.false c.loop-w.invariant
