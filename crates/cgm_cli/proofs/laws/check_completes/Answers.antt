use Rattle.cgm_cli.proofs.Completing.{check_completes}
use Rattle.cgm_cli.proofs.laws.check_completes.Goals as goal

pub returns : goal.returns
returns c = check_completes
