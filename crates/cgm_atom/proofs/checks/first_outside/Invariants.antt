use Rattle.std.proofs.Common.{◌≡◌, drop}
use Rattle.cgm_atom.specs.Instance.{outside_from}
use Rattle.cgm_atom.proofs.checks.first_outside.Given as goal

abbrev pub invariant-loop-x : goal.invariant-loop-x
invariant-loop-x l = outside_from l.problem.bounds 0 l.values ≡ outside_from l.problem.bounds l.x (drop l.x l.values)
