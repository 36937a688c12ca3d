use Rattle.cgm_encode.proofs.LeastSolutions.{none_realizes}
use Rattle.cgm_encode.proofs.RuleLaws.{realizations_extend}
use Rattle.cgm_encode.proofs.laws.no_solution_no_realization.Goals as goal

pub returns : goal.returns
returns c = none_realizes realizations_extend
