use Rattle.cgm_gen.proofs.Short.{generated_is_short}
use Rattle.cgm_gen.proofs.laws.generated_is_short.Goals as goal

pub returns : goal.returns
returns c = generated_is_short
