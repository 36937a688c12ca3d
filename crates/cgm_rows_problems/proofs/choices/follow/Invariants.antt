use Rattle.std.proofs.Common.{◌≡◌, length}
use Rattle.cgm_atom.specs.Instance.{var_count}
use Rattle.cgm_rows_problems.proofs.choices.follow.Given as goal

abbrev pub invariant-loop-made : goal.invariant-loop-made
invariant-loop-made l = record {
  problem : l.trail.problem ≡ l.problem;
  order : length l.order.variables ≡ var_count l.problem;
}
