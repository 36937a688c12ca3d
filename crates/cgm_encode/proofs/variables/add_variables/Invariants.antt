use Rattle.std.proofs.Common.{◌≡◌, ◌+◌, drop}
use Rattle.std.specs.List.{range_with_len}
use Rattle.cgm_atom.specs.Instance.{var_count}
use Rattle.cgm_encode.proofs.AddedVariables.{AreRangesLeft}
use Rattle.cgm_encode.proofs.variables.add_variables.Given as goal

abbrev pub invariant-loop-range : goal.invariant-loop-range
invariant-loop-range l =
    AreRangesLeft l.fn.builder l.ranges l.builder (drop l.range-index l.ranges) × (l.variables.items ≡ range_with_len (var_count l.fn.builder) l.range-index) × (var_count l.builder ≡ var_count l.fn.builder + l.range-index)
