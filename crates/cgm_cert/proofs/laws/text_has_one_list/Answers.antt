use Rattle.cgm_cert.proofs.Once.{one_list}
use Rattle.cgm_cert.proofs.laws.text_has_one_list.Goals as goal

pub returns : goal.returns
returns c = one_list
