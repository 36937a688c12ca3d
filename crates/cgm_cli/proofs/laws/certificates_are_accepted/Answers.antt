use Rattle.cgm_cli.proofs.Accepting.{certificates_are_accepted}
use Rattle.cgm_cli.proofs.laws.certificates_are_accepted.Goals as goal

pub returns : goal.returns
returns c = certificates_are_accepted
