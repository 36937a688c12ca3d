use Rattle.cgm_cert.proofs.Once.{one_fault}
use Rattle.cgm_cert.proofs.laws.text_has_one_fault.Goals as goal

pub returns : goal.returns
returns c = one_fault
