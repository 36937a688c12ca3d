use Rattle.cgm_cli.proofs.Completing.{solve_completes}
use Rattle.cgm_cli.proofs.laws.solve_completes.Goals as goal

pub returns : goal.returns
returns c = solve_completes
