use Rattle.std.specs.List.{AllWithin}
use Rattle.cgm_atom.specs.Ranges.{IsAtomInRange}
use Rattle.cgm_core.proofs.batches.are_in_range.Given as goal

abbrev pub invariant-loop-atom : goal.invariant-loop-atom
invariant-loop-atom l = AllWithin IsAtomInRange l.atoms 0 l.atom-index
