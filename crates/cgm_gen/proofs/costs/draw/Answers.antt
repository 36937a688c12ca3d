use Rattle.cgm_gen.proofs.Drawing.{draw_is}
use Rattle.cgm_gen.proofs.costs.draw.Goals as goal

pub returns : goal.returns
returns c = draw_is c.args.words.now c.next_word-word.new.self c.next_word-word.result c.next_word-word.ensures
