use Rattle.std.proofs.Common.{◌≡◌, ◌++◌, drop}
use Rattle.cgm_model.specs.Model.{lists_of}
use Rattle.cgm_report.specs.Shown.{vector_lines}
use Rattle.cgm_report.proofs.found.push_objectives.Given as goal

abbrev pub invariant-loop-at : goal.invariant-loop-at
invariant-loop-at l =
    l.report.items ++ vector_lines (lists_of l.model) (drop l.at l.objectives) (drop l.at l.vector)
    ≡ l.initial.report.items ++ vector_lines (lists_of l.model) l.objectives l.vector
