use Rattle.cgm_enc_formula.proofs.NamingKnown.{rule_definitions_known}
use Rattle.cgm_enc_formula.proofs.laws.rule_definitions_are_known.Goals as goal

pub returns : goal.returns
returns c = rule_definitions_known
