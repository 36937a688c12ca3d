use Rattle.cgm_atom.specs.Bounds.{IsBoxOf}
use Rattle.cgm_rows_problems.proofs.narrowing.narrow_each.Given as goal

abbrev pub invariant-loop-statement : goal.invariant-loop-statement
invariant-loop-statement l = IsBoxOf l.problem.bounds l.bounds
