use Rattle.cgm_cert.proofs.Lacking.{lacks_not_both}
use Rattle.cgm_cert.proofs.laws.text_lacks_not_both.Goals as goal

pub returns : goal.returns
returns c = lacks_not_both
