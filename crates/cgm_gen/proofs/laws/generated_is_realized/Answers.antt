use Rattle.cgm_gen.proofs.Least.{generated_is_realized}
use Rattle.cgm_gen.proofs.laws.generated_is_realized.Goals as goal

pub returns : goal.returns
returns c = generated_is_realized
