use Rattle.cgm_report.proofs.Showing.{show_quantities}
use Rattle.cgm_report.proofs.laws.found_reports_show_quantities.Goals as goal

pub returns : goal.returns
returns c = show_quantities
