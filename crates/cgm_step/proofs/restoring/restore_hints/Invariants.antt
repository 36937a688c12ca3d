use Rattle.std.proofs.Common.{ℕ, List, ◌++◌, drop}
use Rattle.cgm_atom.specs.Bounds.{IsBoxOf}
use Rattle.cgm_step.specs.Touching.{ChangesOnly, vars_of_hints}
use Rattle.cgm_step.proofs.restoring.restore_hints.Given as goal

-- only the variables of the hints to come are still to be taken back
abbrev pub invariant-loop-h : goal.invariant-loop-h
invariant-loop-h l =
    IsBoxOf l.problem.bounds l.bounds
    × ((vars : List ℕ) → ChangesOnly (vars_of_hints l.problem l.log l.hints ++ vars) l.problem.bounds l.fn.bounds → ChangesOnly (vars_of_hints l.problem l.log (drop l.h-index l.hints) ++ vars) l.problem.bounds l.bounds)
