use Rattle.cgm_model.specs.Model.{lists_of}
use Rattle.cgm_model.proofs.Refined.{refined_unless_leaf}
use Rattle.cgm_model.proofs.realization.is_refined.Goals as goal

pub returns : goal.returns
returns c = refined_unless_leaf (lists_of c.args.model.now) c.args.element c.is_leaf.result c.is_leaf.ensures
