use Rattle.std.proofs.Common.{ℕ, List, ◌++◌, drop}
use Rattle.cgm_atom.specs.Bounds.{IsBoxOf}
use Rattle.cgm_atom.specs.ClauseAtoms.{atoms_of}
use Rattle.cgm_step.specs.Touching.{ChangesOnly, vars_of_atoms}
use Rattle.cgm_step.proofs.restoring.restore_atoms.Given as goal

-- only the variables of the atoms to come are still to be taken back
abbrev pub invariant-loop-i : goal.invariant-loop-i
invariant-loop-i l =
    IsBoxOf l.problem.bounds l.bounds
    × ((vars : List ℕ) → ChangesOnly (vars_of_atoms (atoms_of l.atoms) ++ vars) l.problem.bounds l.fn.bounds → ChangesOnly (vars_of_atoms (drop l.i (atoms_of l.atoms)) ++ vars) l.problem.bounds l.bounds)
