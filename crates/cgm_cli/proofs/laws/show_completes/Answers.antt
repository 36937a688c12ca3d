use Rattle.cgm_cli.proofs.Completing.{show_completes}
use Rattle.cgm_cli.proofs.laws.show_completes.Goals as goal

pub returns : goal.returns
returns c = show_completes
