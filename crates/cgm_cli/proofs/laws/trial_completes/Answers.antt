use Rattle.cgm_cli.proofs.Completing.{trial_completes}
use Rattle.cgm_cli.proofs.laws.trial_completes.Goals as goal

pub returns : goal.returns
returns c = trial_completes
