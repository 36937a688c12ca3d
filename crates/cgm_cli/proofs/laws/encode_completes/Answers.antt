use Rattle.cgm_cli.proofs.Completing.{encode_completes}
use Rattle.cgm_cli.proofs.laws.encode_completes.Goals as goal

pub returns : goal.returns
returns c = encode_completes
