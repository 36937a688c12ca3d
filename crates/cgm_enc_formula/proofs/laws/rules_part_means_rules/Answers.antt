use Rattle.cgm_enc_formula.proofs.RuleMeanings.{rules_part_means}
use Rattle.cgm_enc_formula.proofs.laws.rules_part_means_rules.Goals as goal

pub returns : goal.returns
returns c = rules_part_means
