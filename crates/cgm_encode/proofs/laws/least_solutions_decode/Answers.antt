use Rattle.cgm_encode.proofs.LeastSolutions.{least_decodes}
use Rattle.cgm_encode.proofs.RuleLaws.{realizations_extend, solutions_decode}
use Rattle.cgm_encode.proofs.laws.least_solutions_decode.Goals as goal

pub returns : goal.returns
returns c = least_decodes solutions_decode realizations_extend
