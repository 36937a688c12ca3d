use Rattle.cgm_obj.proofs.Sizes.{vector_long}
use Rattle.cgm_obj.proofs.laws.vector_has_a_number_for_each_objective.Goals as goal

pub returns : goal.returns
returns c = vector_long
