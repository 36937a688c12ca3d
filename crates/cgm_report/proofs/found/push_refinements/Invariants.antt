use Rattle.std.proofs.Common.{◌≡◌, ◌++◌, drop}
use Rattle.cgm_report.specs.Report.{refinement_lines}
use Rattle.cgm_report.proofs.found.push_refinements.Given as goal

abbrev pub invariant-loop-at : goal.invariant-loop-at
invariant-loop-at l =
    l.report.items ++ refinement_lines (drop l.at l.refinements) (drop l.at l.truths)
    ≡ l.initial.report.items ++ refinement_lines l.refinements l.truths
