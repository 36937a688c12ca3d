use Rattle.std.proofs.Common.{◌≡◌, ◌++◌, map, take}
use Rattle.cgm_atom.specs.AtomWords.{atom_word, spaced}
use Rattle.cgm_cert.proofs.printer.push_atoms.Given as goal

abbrev pub invariant-loop-atom : goal.invariant-loop-atom
invariant-loop-atom l = l.out.items ≡ l.initial.out.items ++ spaced (map atom_word (take l.atom-index l.atoms))
