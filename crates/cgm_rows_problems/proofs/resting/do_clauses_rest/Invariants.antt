use Rattle.std.proofs.Common.{◌≡◌}
use Rattle.std.specs.Prelude.{Some}
use Rattle.std.specs.List.{AllWithin}
use Rattle.cgm_atom.specs.Narrowing.{left_by_clause}
use Rattle.cgm_rows_problems.proofs.resting.do_clauses_rest.Given as goal

abbrev pub invariant-loop-n : goal.invariant-loop-n
invariant-loop-n l = AllWithin (λ x. left_by_clause l.bounds x ≡ Some l.bounds) l.problem.clauses 0 l.n
