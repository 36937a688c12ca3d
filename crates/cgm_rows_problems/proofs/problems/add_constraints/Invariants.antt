use Rattle.std.proofs.Common.{◌≤◌}
use Rattle.cgm_rows_problems.specs.Sizes.{HasSizes}
use Rattle.cgm_rows_problems.proofs.problems.add_constraints.Given as goal

abbrev pub invariant-loop-statement : goal.invariant-loop-statement
invariant-loop-statement l = record {
  sizes : HasSizes l.builder l.count l.seen 0;
  few : l.seen ≤ 2000;
}
