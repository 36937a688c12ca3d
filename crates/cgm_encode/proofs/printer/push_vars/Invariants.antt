use Rattle.std.proofs.Common.{◌≡◌, ◌++◌}
use Rattle.std.specs.Prelude.{◌-◌, flat_map}
use Rattle.std.specs.List.{range_with_len}
use Rattle.cgm_atom.specs.Instance.{var_count}
use Rattle.cgm_encode.specs.ProblemText.{var_line, var_lines}
use Rattle.cgm_encode.proofs.printer.push_vars.Given as goal

abbrev pub invariant-loop-v : goal.invariant-loop-v
invariant-loop-v l =
    l.out.items ++ flat_map (var_line l.problem.bounds) (range_with_len l.v (var_count l.problem - l.v)) ≡ l.initial.out.items ++ var_lines l.problem
