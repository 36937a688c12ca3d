use Rattle.cgm_rows_problems.specs.Sizes.{HasSizes}
use Rattle.cgm_rows_problems.proofs.problems.add_variables.Given as goal

abbrev pub invariant-loop-word : goal.invariant-loop-word
invariant-loop-word l = HasSizes l.builder l.count 0 0
