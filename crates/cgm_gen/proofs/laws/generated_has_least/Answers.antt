use Rattle.cgm_gen.proofs.Least.{generated_has_least}
use Rattle.cgm_gen.proofs.laws.generated_has_least.Goals as goal

pub returns : goal.returns
returns c = generated_has_least
