use Rattle.cgm_enc_formula.proofs.RuleSizes.{rules_part_small}
use Rattle.cgm_encode.proofs.ProblemSizes.{problem_small}
use Rattle.cgm_encode.proofs.laws.problems_are_small.Goals as goal

pub returns : goal.returns
returns c = problem_small rules_part_small
