use Rattle.cgm_text.proofs.Outcomes.{one_model, one_reading}
use Rattle.cgm_text.proofs.laws.text_has_one_model.Goals as goal

pub returns-clause-model : goal.returns-clause-model
returns-clause-model c = one_model

pub returns-clause-rule_lines : goal.returns-clause-rule_lines
returns-clause-rule_lines c = one_reading
