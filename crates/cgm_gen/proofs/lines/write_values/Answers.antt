use Rattle.std.proofs.Common.{◌++◌, get_or, ap, ◌∙◌, arith}
use Rattle.std.proofs.lemmas.List.{get_or_default}
use Rattle.cgm_gen.specs.declared.costs.Costs.{Costs}
use Rattle.cgm_gen.specs.GeneratedText.{each_goal, value_lines}
use Rattle.cgm_gen.proofs.Drawing.{costs}
use Rattle.cgm_gen.proofs.Writing.{goal_more, goals_done}
use Rattle.cgm_gen.proofs.lines.write_values.Goals as goal

pub loop-one-preserved : goal.loop-one-preserved
loop-one-preserved c =
    let all = c.args.costs.now in
    let i = c.loop-one.one-index in
    let one : Costs = get_or all i (costs 0 0) in
    record {
      placed = omega (arith, c.loop-one.invariant.placed);
      so_far = goal_more value_lines all i one c.loop-one-test.true (get_or_default all i (costs 0 0) one c.loop-one-test.true)
          (c.args.text.now.items ++ each_goal value_lines 0 all) c.loop-one.text.items c.write.new.text.items c.as_str.result.now
          c.loop-one.invariant.so_far
          (c.as_str.ensures.value ∙ c.in_ok-lines.ensures ∙ ap (λ k. value_lines k one) c.loop-one.invariant.placed)
          c.in_ok-write.ensures;
    }

pub returns : goal.returns
returns c =
    goals_done value_lines c.args.costs.now c.loop-one.one-index c.loop-one-test.false
    (c.args.text.now.items ++ each_goal value_lines 0 c.args.costs.now) c.loop-one.text.items c.loop-one.invariant.so_far
