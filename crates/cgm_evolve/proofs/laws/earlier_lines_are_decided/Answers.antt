use Rattle.cgm_evolve.proofs.Outcomes.{earlier_text_decided}
use Rattle.cgm_evolve.proofs.laws.earlier_lines_are_decided.Goals as goal

pub returns : goal.returns
returns c = earlier_text_decided
