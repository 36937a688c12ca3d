use Rattle.std.proofs.Common.{◌≡◌, ◌++◌, drop}
use Rattle.cgm_atom.specs.Instance.{values_at}
use Rattle.cgm_encode.proofs.solutions.objective_values.Given as goal

abbrev pub invariant-loop-v : goal.invariant-loop-v
invariant-loop-v l = l.vector.items ++ values_at l.values (drop l.v-index l.objectives) ≡ values_at l.values l.objectives
