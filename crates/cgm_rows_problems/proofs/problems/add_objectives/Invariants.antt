use Rattle.cgm_rows_problems.specs.Sizes.{HasSizes}
use Rattle.cgm_rows_problems.proofs.problems.add_objectives.Given as goal

abbrev pub invariant-loop-word : goal.invariant-loop-word
invariant-loop-word l = HasSizes l.builder l.count 2000 l.made
