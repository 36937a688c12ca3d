use Rattle.std.proofs.Common.{take}
use Rattle.cgm_model.specs.Search.{state, MarksEach}
use Rattle.cgm_model.proofs.graph.mark_each.Given as goal

abbrev pub invariant-loop-element : goal.invariant-loop-element
invariant-loop-element l =
    MarksEach (take l.element-index l.elements) (state l.initial.marks l.initial.queue l.initial.count) (state l.marks l.queue l.count)
