use Rattle.std.proofs.Common.{◌≡◌, ◌+◌, drop, map, sum}
use Rattle.cgm_formula.specs.Nodes.{node_count}
use Rattle.cgm_model.proofs.formulas.+nodes.Given as goal

abbrev pub invariant-room_after_each-loop-part : goal.invariant-room_after_each-loop-part
invariant-room_after_each-loop-part l =
    l.room + sum (map node_count (drop l.part-index l.parts)) ≡ l.left + sum (map node_count l.parts)
