use Rattle.cgm_cert.proofs.Once.{entries_or_fault}
use Rattle.cgm_cert.proofs.laws.text_has_entries_or_fault.Goals as goal

pub returns : goal.returns
returns c = entries_or_fault
