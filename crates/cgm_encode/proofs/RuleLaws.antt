-- The laws on rules that the laws on whole problems stand on.
use Rattle.cgm_enc_formula.proofs.Extending.{extended_defined}
use Rattle.cgm_enc_formula.proofs.NamingKnown.{rule_definitions_known}
use Rattle.cgm_enc_formula.proofs.RuleMeanings.{rules_part_means}
use Rattle.cgm_encode.specs.Laws.{RealizationsExtend, SolutionsDecode}
use Rattle.cgm_encode.proofs.Decoding.{solution_decodes}
use Rattle.cgm_encode.proofs.Extending.{RuleLaws, realization_extends}

rule_laws : RuleLaws
rule_laws = record { mean = rules_part_means; defined = extended_defined; known = rule_definitions_known }

pub solutions_decode : SolutionsDecode
solutions_decode = solution_decodes rules_part_means

pub realizations_extend : RealizationsExtend
realizations_extend = realization_extends rule_laws
