use Rattle.std.proofs.Common.{◌≡◌, ◌+◌, drop}
use Rattle.cgm_atom.specs.Instance.{var_count}
use Rattle.cgm_atom.specs.Limits.{AreTermsOf, measure}
use Rattle.cgm_atom.proofs.builders.is_measure_within.Given as goal

abbrev pub invariant-loop-coefficient : goal.invariant-loop-coefficient
invariant-loop-coefficient l =
    (l.room + measure l.problem.bounds l.terms ≡ l.most + measure l.problem.bounds (drop l.coefficient-index l.terms))
    × AreTermsOf (var_count l.problem) (drop l.coefficient-index l.terms)
