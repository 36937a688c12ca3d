use Rattle.cgm_evolve.proofs.Outcomes.{one_list}
use Rattle.cgm_evolve.proofs.laws.earlier_text_has_one_list.Goals as goal

pub returns : goal.returns
returns c = one_list
