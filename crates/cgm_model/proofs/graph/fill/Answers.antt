use Rattle.std.proofs.Common.{◌≡◌, [], get_or, ◌∙◌, subst, arith}
use Rattle.std.proofs.lemmas.List.{get_or_read}
use Rattle.cgm_model.specs.Search.{state, Visits}
use Rattle.cgm_model.proofs.Marking.{IsFilling-begun, IsFilling-more, Fills-from_filling, next_within}
use Rattle.cgm_model.proofs.graph.fill.Goals as goal

pub loop-next-init : goal.loop-next-init
loop-next-init c = IsFilling-begun c.args.refinements.now (state c.args.marks.now c.args.queue.now c.args.count) c.requires.search

pub loop-next-preserved : goal.loop-next-preserved
loop-next-preserved c =
    let element = get_or c.loop-next.queue c.loop-next.next 0 in
    let old = state c.loop-next.marks c.loop-next.queue c.loop-next.count in
    let new = state c.visit-count.new.marks c.visit-count.new.queue c.visit-count.result in
    let within = next_within c.args.refinements.now (state c.args.marks.now c.args.queue.now c.args.count) old c.loop-next.next c.loop-next-test.true c.loop-next.invariant in
    let is : c.as_slice-numbers.result.now ≡ get_or c.args.by_target.now element [] = c.as_slice-numbers.ensures ∙ get_or_read c.args.by_target.now element c.index-by_target-element.result (omega (arith, within, c.requires.targets)) c.index-by_target-element.is [] in
    IsFilling-more c.args.refinements.now c.args.by_target.now (state c.args.marks.now c.args.queue.now c.args.count) old new c.loop-next.next c.requires.covered c.loop-next-test.true c.loop-next.invariant
    (subst (λ xs. Visits c.args.refinements.now element xs old new) is c.visit-count.ensures)

pub returns : goal.returns
returns c =
    Fills-from_filling c.args.refinements.now (state c.args.marks.now c.args.queue.now c.args.count) (state c.loop-next.marks c.loop-next.queue c.loop-next.count) c.loop-next.next c.loop-next-test.false c.loop-next.invariant
