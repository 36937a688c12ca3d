use Rattle.std.proofs.Common.{◌≡◌, not, drop}
use Rattle.std.specs.List.{position_from}
use Rattle.cgm_atom.specs.Atoms.{row_true}
use Rattle.cgm_atom.proofs.checks.first_unmet_row.Given as goal

abbrev pub invariant-loop-n : goal.invariant-loop-n
invariant-loop-n l =
    position_from (λ r. not (row_true l.values r)) 0 l.problem.rows ≡ position_from (λ r. not (row_true l.values r)) l.n (drop l.n l.problem.rows)
