use Rattle.cgm_encode.proofs.RuleLaws.{realizations_extend}
use Rattle.cgm_encode.proofs.laws.realizations_extend.Goals as goal

pub returns : goal.returns
returns c = realizations_extend
