use Rattle.cgm_evolve.proofs.Outcomes.{one_fault}
use Rattle.cgm_evolve.proofs.laws.earlier_text_has_one_fault.Goals as goal

pub returns : goal.returns
returns c = one_fault
