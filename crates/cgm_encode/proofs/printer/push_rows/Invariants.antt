use Rattle.std.proofs.Common.{◌≡◌, ◌++◌, drop}
use Rattle.std.specs.Prelude.{flat_map}
use Rattle.std.specs.List.{enumerate_from}
use Rattle.cgm_encode.specs.ProblemText.{row_line, row_lines}
use Rattle.cgm_encode.proofs.printer.push_rows.Given as goal

abbrev pub invariant-loop-n : goal.invariant-loop-n
invariant-loop-n l =
    l.out.items ++ flat_map row_line (enumerate_from l.n (drop l.n l.problem.rows)) ≡ l.initial.out.items ++ row_lines l.problem
