use Rattle.cgm_gen.proofs.Drawing.{both_at, costs, one_at, one_is}
use Rattle.cgm_gen.proofs.costs.costs_at.Goals as goal

pub returns-then-are_both_drawn : goal.returns-then-are_both_drawn
returns-then-are_both_drawn c =
    both_at c.args.place c.are_both_drawn.result c.args.words.now (c.both_drawn.result, c.both_drawn.new.words) c.are_both_drawn.ensures c.if-are_both_drawn.true c.both_drawn.ensures

pub returns : goal.returns
returns c =
    one_at c.args.place c.are_both_drawn.result c.args.words.now (costs 0 c.draw-of_b.result, c.draw-of_b.new.words) c.are_both_drawn.ensures c.if-are_both_drawn.false
    (one_is c.args.words.now c.draw-of_b.new.words c.draw-of_b.result c.draw-of_b.ensures)
