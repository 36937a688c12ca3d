use Rattle.std.specs.List.{AllWithin}
use Rattle.cgm_atom.specs.Limits.{IsAtomOf}
use Rattle.cgm_rows_problems.proofs.problems.are_atoms.Given as goal

abbrev pub invariant-loop-i : goal.invariant-loop-i
invariant-loop-i l = AllWithin (IsAtomOf l.count) l.atoms 0 l.i
