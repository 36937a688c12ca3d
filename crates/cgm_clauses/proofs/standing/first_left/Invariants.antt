use Rattle.std.proofs.Common.{◌≡◌, drop}
use Rattle.cgm_atom.specs.ClauseAtoms.{left_in}
use Rattle.cgm_clauses.proofs.standing.first_left.Given as goal

abbrev pub invariant-loop-i : goal.invariant-loop-i
invariant-loop-i l = left_in l.bounds (drop l.fn.from l.atoms) ≡ left_in l.bounds (drop l.i l.atoms)
