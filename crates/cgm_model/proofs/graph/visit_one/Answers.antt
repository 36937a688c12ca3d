use Rattle.std.proofs.Common.{All, ◌<◌, length, sym, subst}
use Rattle.cgm_model.specs.Graph.{HasKnownElements}
use Rattle.cgm_model.specs.Search.{state, MarksEach}
use Rattle.cgm_model.proofs.Marking.{Visits-nothing, Visits-other, Visits-sources, item_at}
use Rattle.cgm_model.proofs.graph.visit_one.Goals as goal

pub returns-in-None : goal.returns-in-None
returns-in-None c =
    Visits-nothing c.args.refinements.now c.args.element c.args.number (state c.args.marks.now c.args.queue.now c.args.count) c.requires.search (sym c.in-None.ensures)

pub mark_each-requires-clause-known : goal.mark_each-requires-clause-known
mark_each-requires-clause-known c =
    let known : HasKnownElements (length c.args.marks.now) c.in-Some.r.now = item_at (HasKnownElements (length c.args.marks.now)) c.args.refinements.now c.args.number c.in-Some.r.now c.requires.known (sym c.in-Some.ensures) in
    subst (λ xs. All (λ x. x < length c.args.marks.now) xs) (sym c.as_slice.ensures) known.sources

pub returns-then-r-element : goal.returns-then-r-element
returns-then-r-element c =
    let old = state c.args.marks.now c.args.queue.now c.args.count in
    let new = state c.mark_each.new.marks c.mark_each.new.queue c.mark_each.result in
    Visits-sources c.args.refinements.now c.args.element c.args.number c.in-Some.r.now old new (sym c.in-Some.ensures) c.if-r-element.true
    (subst (λ xs. MarksEach xs old new) c.as_slice.ensures c.mark_each.ensures)

pub returns-else-r-element : goal.returns-else-r-element
returns-else-r-element c =
    Visits-other c.args.refinements.now c.args.element c.args.number c.in-Some.r.now (state c.args.marks.now c.args.queue.now c.args.count) c.requires.search (sym c.in-Some.ensures) c.if-r-element.false
