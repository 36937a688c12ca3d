use Rattle.cgm_atom.proofs.Fresh.{IsFoundAt}
use Rattle.cgm_atom.proofs.builders.first_atoms.Given as goal

abbrev pub invariant-loop-atom : goal.invariant-loop-atom
invariant-loop-atom l = IsFoundAt l.atoms l.atom-index l.kept.items l.seen
