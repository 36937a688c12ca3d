use Rattle.std.proofs.Common.{get_or, take, length}
use Rattle.std.proofs.lemmas.List.{take_more}
use Rattle.cgm_model.specs.Search.{state}
use Rattle.cgm_model.proofs.Marking.{Visits-none, Visits-push, IsKnown-wider}
use Rattle.cgm_model.proofs.graph.visit.Goals as goal

pub loop-number-init : goal.loop-number-init
loop-number-init c = Visits-none c.args.refinements.now c.args.element (state c.args.marks.now c.args.queue.now c.args.count) c.requires.search

pub visit_one-count-requires-clause-search : goal.visit_one-count-requires-clause-search
visit_one-count-requires-clause-search c = c.loop-number.invariant.continues.search

pub visit_one-count-requires-clause-known : goal.visit_one-count-requires-clause-known
visit_one-count-requires-clause-known c =
    IsKnown-wider (length c.args.marks.now) (length c.loop-number.marks) c.loop-number.invariant.continues.length c.args.refinements.now c.requires.known

pub loop-number-preserved : goal.loop-number-preserved
loop-number-preserved c =
    let split = take_more c.args.numbers.now c.loop-number.number-index 0 c.loop-number-test.true in
    rw split (Visits-push c.args.refinements.now c.args.element (take c.loop-number.number-index c.args.numbers.now) (get_or c.args.numbers.now c.loop-number.number-index 0) (state c.args.marks.now c.args.queue.now c.args.count) (state c.loop-number.marks c.loop-number.queue c.loop-number.count) (state c.visit_one-count.new.marks c.visit_one-count.new.queue c.visit_one-count.result) c.loop-number.invariant c.visit_one-count.ensures)
