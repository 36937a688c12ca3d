use Rattle.std.proofs.Common.{◌≡◌, ◌+◌, ◌≤◌, drop, ◌+ℤ◌}
use Rattle.std.specs.Prelude.{unsigned_abs}
use Rattle.cgm_atom.specs.Atoms.{activity}
use Rattle.cgm_atom.specs.Instance.{var_count}
use Rattle.cgm_atom.specs.Limits.{AreTermsOf, measure}
use Rattle.cgm_atom.proofs.checks.activity_of.Given as goal

abbrev pub invariant-loop-coefficient : goal.invariant-loop-coefficient
invariant-loop-coefficient l =
    (l.sum +ℤ activity l.values (drop l.coefficient-index l.terms) ≡ activity l.values l.terms)
    × (unsigned_abs l.sum + measure l.problem.bounds (drop l.coefficient-index l.terms) ≤ measure l.problem.bounds l.terms)
    × AreTermsOf (var_count l.problem) (drop l.coefficient-index l.terms)
