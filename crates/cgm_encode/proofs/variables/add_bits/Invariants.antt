use Rattle.cgm_encode.proofs.AddedVariables.{AreBitsLeft}
use Rattle.cgm_encode.proofs.variables.add_bits.Given as goal

abbrev pub invariant-loop : goal.invariant-loop
invariant-loop l =
    AreBitsLeft l.fn.builder l.count l.counter l.builder l.variables.items
