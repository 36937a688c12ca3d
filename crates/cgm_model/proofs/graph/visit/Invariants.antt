use Rattle.std.proofs.Common.{take}
use Rattle.cgm_model.specs.Search.{state, Visits}
use Rattle.cgm_model.proofs.graph.visit.Given as goal

abbrev pub invariant-loop-number : goal.invariant-loop-number
invariant-loop-number l =
    Visits l.refinements l.element (take l.number-index l.numbers) (state l.initial.marks l.initial.queue l.initial.count) (state l.marks l.queue l.count)
