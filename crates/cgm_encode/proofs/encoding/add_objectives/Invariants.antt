use Rattle.std.proofs.Common.{◌≡◌, ◌+◌, length, drop}
use Rattle.cgm_atom.specs.Instance.{var_count}
use Rattle.cgm_encode.specs.Stages.{with_objectives}
use Rattle.cgm_encode.proofs.encoding.add_objectives.Given as goal

abbrev pub invariant-loop-v : goal.invariant-loop-v
invariant-loop-v l =
    (with_objectives l.builder (drop l.v-index l.variables) ≡ with_objectives l.fn.builder l.variables)
    × (var_count l.builder ≡ var_count l.fn.builder) × (length l.builder.objectives ≡ length l.fn.builder.objectives + l.v-index)
