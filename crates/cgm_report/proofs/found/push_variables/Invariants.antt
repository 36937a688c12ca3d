use Rattle.std.proofs.Common.{◌≡◌, ◌++◌, drop}
use Rattle.cgm_report.specs.Report.{variable_lines}
use Rattle.cgm_report.proofs.found.push_variables.Given as goal

abbrev pub invariant-loop-at : goal.invariant-loop-at
invariant-loop-at l =
    l.report.items ++ variable_lines (drop l.at l.vars) (drop l.at l.numbers)
    ≡ l.initial.report.items ++ variable_lines l.vars l.numbers
