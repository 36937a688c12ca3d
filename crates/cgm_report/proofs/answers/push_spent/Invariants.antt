use Rattle.std.proofs.Common.{◌≡◌, ◌++◌, drop}
use Rattle.cgm_report.specs.Answers.{spent_lines}
use Rattle.cgm_report.proofs.answers.push_spent.Given as goal

abbrev pub invariant-loop-worker : goal.invariant-loop-worker
invariant-loop-worker l =
    l.report.items ++ spent_lines l.worker (drop l.worker l.spent)
    ≡ l.initial.report.items ++ spent_lines 0 l.spent
