use Rattle.std.proofs.Common.{◌≡◌, ◌++◌, drop}
use Rattle.cgm_gen.specs.GeneratedText.{each_goal, value_lines}
use Rattle.cgm_gen.proofs.lines.write_values.Given as goal

abbrev pub invariant-loop-one : goal.invariant-loop-one
invariant-loop-one l = record {
  placed : l.place ≡ l.one-index;
  so_far : l.text.items ++ each_goal value_lines l.one-index (drop l.one-index l.costs) ≡ l.fn.text.items ++ each_goal value_lines 0 l.costs;
}
