use Rattle.std.proofs.Common.{◌≡◌, ◌++◌, drop}
use Rattle.std.specs.Prelude.{flat_map}
use Rattle.cgm_encode.specs.ProblemText.{objective_line}
use Rattle.cgm_encode.proofs.printer.push_objectives.Given as goal

abbrev pub invariant-loop-v : goal.invariant-loop-v
invariant-loop-v l =
    l.out.items ++ flat_map objective_line (drop l.v-index l.objectives) ≡ l.initial.out.items ++ flat_map objective_line l.objectives
