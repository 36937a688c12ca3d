use Rattle.std.proofs.Common.{ℕ, List, ◌++◌, drop}
use Rattle.cgm_atom.specs.Bounds.{IsBoxOf}
use Rattle.cgm_step.specs.Touching.{ChangesOnly, vars_of_terms}
use Rattle.cgm_step.proofs.restoring.restore_terms.Given as goal

-- only the variables of the terms to come are still to be taken back
abbrev pub invariant-loop-term : goal.invariant-loop-term
invariant-loop-term l =
    IsBoxOf l.problem.bounds l.bounds
    × ((vars : List ℕ) → ChangesOnly (vars_of_terms l.terms ++ vars) l.problem.bounds l.fn.bounds → ChangesOnly (vars_of_terms (drop l.term-index l.terms) ++ vars) l.problem.bounds l.bounds)
