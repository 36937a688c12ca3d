-- What solutions of a model's problem mean for the model.
use Rattle.cgm_encode.specs.Laws.{LeastSolutionsDecode, NoSolutionNoRealization}
use Rattle.cgm_encode.proofs.LeastSolutions.{least_decodes, none_realizes}
use Rattle.cgm_encode.proofs.RuleLaws.{realizations_extend, solutions_decode}

pub least_solutions_decode : LeastSolutionsDecode
least_solutions_decode = least_decodes solutions_decode realizations_extend

pub no_solution_no_realization : NoSolutionNoRealization
no_solution_no_realization = none_realizes realizations_extend
