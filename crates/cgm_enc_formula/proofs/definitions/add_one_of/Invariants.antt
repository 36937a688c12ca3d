use Rattle.std.proofs.Common.{◌≡◌, ◌∷◌, map, take}
use Rattle.cgm_enc_formula.specs.Literals.{atom_of}
use Rattle.cgm_enc_formula.proofs.definitions.add_one_of.Given as goal

abbrev pub invariant-loop-l : goal.invariant-loop-l
invariant-loop-l l = l.atoms.items ≡ l.fn.first ∷ map atom_of (take l.l-index l.literals)
