use Rattle.cgm_gen.proofs.Reading.{generated_is_read}
use Rattle.cgm_gen.proofs.laws.generated_is_read.Goals as goal

pub returns : goal.returns
returns c = generated_is_read
