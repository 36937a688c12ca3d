use Rattle.std.proofs.Common.{◌≡◌, map}
use Rattle.std.specs.List.{range_with_len}
use Rattle.cgm_atom.specs.Literals.{truth_at}
use Rattle.cgm_encode.proofs.assignments.truths.Given as goal

abbrev pub invariant-loop-x : goal.invariant-loop-x
invariant-loop-x l =
    l.truths.items ≡ map (truth_at l.values) (range_with_len l.from l.x)
