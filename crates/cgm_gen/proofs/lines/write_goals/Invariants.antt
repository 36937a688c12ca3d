use Rattle.std.proofs.Common.{◌≡◌, ◌++◌, drop}
use Rattle.cgm_gen.specs.GeneratedText.{each_goal, goal_lines}
use Rattle.cgm_gen.proofs.lines.write_goals.Given as goal

abbrev pub invariant-loop-one : goal.invariant-loop-one
invariant-loop-one l = record {
  placed : l.place ≡ l.one-index;
  so_far : l.text.items ++ each_goal (λ place one. goal_lines place) l.one-index (drop l.one-index l.costs) ≡ l.fn.text.items ++ each_goal (λ place one. goal_lines place) 0 l.costs;
}
