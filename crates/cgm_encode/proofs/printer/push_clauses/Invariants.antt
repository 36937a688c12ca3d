use Rattle.std.proofs.Common.{◌≡◌, ◌++◌, drop}
use Rattle.std.specs.Prelude.{flat_map}
use Rattle.std.specs.List.{enumerate_from}
use Rattle.cgm_encode.specs.ProblemText.{clause_line, clause_lines}
use Rattle.cgm_encode.proofs.printer.push_clauses.Given as goal

abbrev pub invariant-loop-n : goal.invariant-loop-n
invariant-loop-n l =
    l.out.items ++ flat_map clause_line (enumerate_from l.n (drop l.n l.problem.clauses)) ≡ l.initial.out.items ++ clause_lines l.problem
