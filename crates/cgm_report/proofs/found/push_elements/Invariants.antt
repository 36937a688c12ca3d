use Rattle.std.proofs.Common.{◌≡◌, ◌++◌, drop}
use Rattle.cgm_report.specs.Report.{element_lines}
use Rattle.cgm_report.proofs.found.push_elements.Given as goal

abbrev pub invariant-loop-at : goal.invariant-loop-at
invariant-loop-at l =
    l.report.items ++ element_lines (drop l.at l.elements) (drop l.at l.truths)
    ≡ l.initial.report.items ++ element_lines l.elements l.truths
