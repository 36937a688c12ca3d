use Rattle.cgm_text.proofs.Outcomes.{model_text_decided}
use Rattle.cgm_text.proofs.laws.lines_are_decided.Goals as goal

pub returns : goal.returns
returns c = model_text_decided
