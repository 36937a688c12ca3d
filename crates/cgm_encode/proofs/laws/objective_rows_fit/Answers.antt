use Rattle.cgm_encode.proofs.ProblemRows.{objectives_fit}
use Rattle.cgm_encode.proofs.laws.objective_rows_fit.Goals as goal

pub returns : goal.returns
returns c = objectives_fit
