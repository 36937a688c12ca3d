use Rattle.cgm_obj.proofs.Sizes.{vector_small}
use Rattle.cgm_obj.proofs.laws.vector_is_small.Goals as goal

pub returns : goal.returns
returns c = vector_small
