use Rattle.cgm_gen.proofs.Drawing.{both_is}
use Rattle.cgm_gen.proofs.costs.both_drawn.Goals as goal

pub returns : goal.returns
returns c =
    both_is c.args.words.now c.draw-of_a.new.words c.draw-of_b.new.words c.draw-of_a.result c.draw-of_b.result c.draw-of_a.ensures c.draw-of_b.ensures
