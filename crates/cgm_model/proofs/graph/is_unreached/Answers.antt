use Rattle.std.proofs.Common.{ℕ, ◌<◌, ◌∙◌, sym, false, get_or, All, subst, arith}
use Rattle.std.proofs.lemmas.Bool.{false≢true, not-true, not_from_false, false_from_ne_true}
use Rattle.cgm_model.specs.Graph.{IsNumbering}
use Rattle.cgm_model.specs.Search.{IsMarked, AreBelow, MarksEach, state}
use Rattle.cgm_model.proofs.Cycles.{IsAcyclic-from_closed, cyclic_from_marked}
use Rattle.cgm_model.proofs.Marking.{IsSearch-begun}
use Rattle.cgm_model.proofs.graph.is_unreached.Goals as goal

pub mark_each-count-requires-clause-search : goal.mark_each-count-requires-clause-search
mark_each-count-requires-clause-search c =
    IsSearch-begun c.unmark_all.new.marks c.args.queue.now (omega (arith, c.requires.queue, c.unmark_all.auto.marks)) (λ x m. false≢true (sym (c.unmark_all.ensures x) ∙ m))

pub returns : goal.returns
returns c =
    let refinements = c.args.refinements.now in
    let r = c.args.refinement.now in
    let marks = c.fill.new.marks in
    let reached = get_or marks r.target false in
    let begun = state c.unmark_all.new.marks c.args.queue.now 0 in
    let found = state c.mark_each-count.new.marks c.mark_each-count.new.queue c.mark_each-count.result in
    let each = subst (λ xs. MarksEach xs begun found) c.as_slice.ensures c.mark_each-count.ensures in
    let marked : All (IsMarked marks) r.sources = λ k d l. c.fill.ensures.kept (get_or r.sources k d) (each.marked k d l) in
    let below : (f : ℕ → ℕ) (bound : ℕ) → IsNumbering f refinements → All (λ source. f source < bound) r.sources → AreBelow f bound marks = λ f bound numbering sources. c.fill.ensures.below f bound numbering (each.below f bound sources (λ x m. absurd (false≢true (sym (c.unmark_all.ensures x) ∙ m)))) in (
      λ e. IsAcyclic-from_closed refinements r marks c.requires.acyclic c.fill.ensures.closed marked (λ m. false≢true (sym (not-true reached e) ∙ m)),
      λ acyclic. not_from_false reached (false_from_ne_true reached (λ m. cyclic_from_marked refinements r marks below m acyclic)),
    )
