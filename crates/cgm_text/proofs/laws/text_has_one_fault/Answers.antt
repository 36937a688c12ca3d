use Rattle.cgm_text.proofs.Outcomes.{one_fault}
use Rattle.cgm_text.proofs.laws.text_has_one_fault.Goals as goal

pub returns : goal.returns
returns c = one_fault
