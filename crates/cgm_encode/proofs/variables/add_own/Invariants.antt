use Rattle.std.proofs.Common.{drop, map}
use Rattle.cgm_encode.specs.Problem.{own_range}
use Rattle.cgm_encode.proofs.AddedVariables.{AreRangesLeft}
use Rattle.cgm_encode.proofs.variables.add_own.Given as goal

abbrev pub invariant-loop-v : goal.invariant-loop-v
invariant-loop-v l =
    AreRangesLeft l.fn.builder (map own_range l.vars) l.builder (map own_range (drop l.v-index l.vars))
