use Rattle.cgm_enc_formula.proofs.RuleSizes.{rules_part_small}
use Rattle.cgm_enc_formula.proofs.laws.rules_part_is_small.Goals as goal

pub returns : goal.returns
returns c = rules_part_small
