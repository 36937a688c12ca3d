use Rattle.cgm_encode.proofs.ProblemRows.{preferences_known}
use Rattle.cgm_encode.proofs.laws.preferences_are_known.Goals as goal

pub returns : goal.returns
returns c = preferences_known
