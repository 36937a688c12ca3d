use Rattle.std.proofs.Common.{◌≡◌, ℕ, take, length, All}
use Rattle.cgm_model.specs.Search.{IsMarked}
use Rattle.cgm_model.proofs.graph.flag_each.Given as goal

abbrev pub invariant-loop-element : goal.invariant-loop-element
invariant-loop-element l =
    (length l.flags.items ≡ length l.initial.flags.items)
    × ((element : ℕ) → IsMarked l.initial.flags.items element → IsMarked l.flags.items element)
    × All (IsMarked l.flags.items) (take l.element-index l.elements)
