use Rattle.std.proofs.Common.{◌-◌, length}
use Rattle.cgm_model.specs.Search.{state}
use Rattle.cgm_model.proofs.Marking.{IsFilling}
use Rattle.cgm_model.proofs.graph.fill.Given as goal

abbrev pub invariant-loop-next : goal.invariant-loop-next
invariant-loop-next l =
    IsFilling l.refinements (state l.initial.marks l.initial.queue l.initial.count) (state l.marks l.queue l.count) l.next

abbrev pub decreases-loop-next : goal.decreases-loop-next
decreases-loop-next l = length l.queue - l.next
