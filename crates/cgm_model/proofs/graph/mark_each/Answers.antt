use Rattle.std.proofs.Common.{get_or, take, arith}
use Rattle.std.proofs.lemmas.List.{take_more}
use Rattle.cgm_model.specs.Search.{state}
use Rattle.cgm_model.proofs.Marking.{MarksEach-none, MarksEach-push}
use Rattle.cgm_model.proofs.graph.mark_each.Goals as goal

pub loop-element-init : goal.loop-element-init
loop-element-init c = MarksEach-none (state c.args.marks.now c.args.queue.now c.args.count) c.requires.search

pub mark-count-requires-clause-search : goal.mark-count-requires-clause-search
mark-count-requires-clause-search c = c.loop-element.invariant.continues.search

pub mark-count-requires-clause-known : goal.mark-count-requires-clause-known
mark-count-requires-clause-known c =
    let less = c.requires.known c.loop-element.element-index 0 c.loop-element-test.true in
    omega (arith, less, c.loop-element.invariant.continues.length)

pub loop-element-preserved : goal.loop-element-preserved
loop-element-preserved c =
    let split = take_more c.args.elements.now c.loop-element.element-index 0 c.loop-element-test.true in
    rw split (MarksEach-push (take c.loop-element.element-index c.args.elements.now) (get_or c.args.elements.now c.loop-element.element-index 0) (state c.args.marks.now c.args.queue.now c.args.count) (state c.loop-element.marks c.loop-element.queue c.loop-element.count) (state c.mark-count.new.marks c.mark-count.new.queue c.mark-count.result) c.loop-element.invariant c.mark-count.ensures)
