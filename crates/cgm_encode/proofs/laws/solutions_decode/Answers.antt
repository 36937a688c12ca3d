use Rattle.cgm_encode.proofs.RuleLaws.{solutions_decode}
use Rattle.cgm_encode.proofs.laws.solutions_decode.Goals as goal

pub returns : goal.returns
returns c = solutions_decode
