use Rattle.std.proofs.Common.{◌≡◌, map}
use Rattle.std.specs.List.{range_with_len}
use Rattle.cgm_atom.specs.Bounds.{value_of}
use Rattle.cgm_encode.proofs.assignments.numbers.Given as goal

abbrev pub invariant-loop-x : goal.invariant-loop-x
invariant-loop-x l =
    l.numbers.items ≡ map (value_of l.values) (range_with_len l.from l.x)
