use Rattle.std.proofs.Common.{◌≡◌, ◌++◌, drop}
use Rattle.cgm_report.specs.Report.{sum_lines}
use Rattle.cgm_report.proofs.found.push_sums.Given as goal

abbrev pub invariant-loop-at : goal.invariant-loop-at
invariant-loop-at l =
    l.report.items ++ sum_lines (drop l.at l.sums) (drop l.at l.values)
    ≡ l.initial.report.items ++ sum_lines l.sums l.values
