use Rattle.std.proofs.Common.{◌≡◌, drop}
use Rattle.cgm_atom.specs.ClauseAtoms.{atoms_of, left_in}
use Rattle.cgm_atom.proofs.clauses.first_left.Given as goal

abbrev pub invariant-loop-i : goal.invariant-loop-i
invariant-loop-i l =
    left_in l.bounds (drop l.fn.from (atoms_of l.atoms)) ≡ left_in l.bounds (drop l.i (atoms_of l.atoms))
