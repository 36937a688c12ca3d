use Rattle.std.proofs.Common.{◌≡◌, not, drop}
use Rattle.std.specs.List.{position_from}
use Rattle.cgm_atom.specs.Atoms.{clause_true}
use Rattle.cgm_atom.proofs.checks.first_false_clause.Given as goal

abbrev pub invariant-loop-n : goal.invariant-loop-n
invariant-loop-n l =
    position_from (λ c. not (clause_true l.values c)) 0 l.problem.clauses ≡ position_from (λ c. not (clause_true l.values c)) l.n (drop l.n l.problem.clauses)
