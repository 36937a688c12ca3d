use Rattle.std.proofs.Common.{rules}
use Rattle.cgm_report.specs.Shown.{shown_line}
use Rattle.cgm_report.proofs.found.push_objective.Goals as goal

pub returns : goal.returns
unfolding shown_line
returns c = search rules
