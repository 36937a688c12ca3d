use Rattle.cgm_encode.proofs.ProblemRows.{sums_fit}
use Rattle.cgm_encode.proofs.laws.sum_rows_fit.Goals as goal

pub returns : goal.returns
returns c = sums_fit
