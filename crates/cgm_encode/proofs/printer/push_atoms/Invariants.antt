use Rattle.std.proofs.Common.{◌≡◌, ◌++◌, drop, map}
use Rattle.cgm_atom.specs.AtomWords.{atom_word, spaced}
use Rattle.cgm_encode.proofs.printer.push_atoms.Given as goal

abbrev pub invariant-loop-a : goal.invariant-loop-a
invariant-loop-a l =
    l.out.items ++ spaced (map atom_word (drop l.a-index l.atoms)) ≡ l.initial.out.items ++ spaced (map atom_word l.atoms)
