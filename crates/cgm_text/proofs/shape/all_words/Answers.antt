use Rattle.std.proofs.Common.{map, ◌∙◌, sym, true≢false}
use Rattle.cgm_text.specs.Trees.{seen_all, word_in}
use Rattle.cgm_text.proofs.Forms.{no_words}
use Rattle.cgm_text.proofs.shape.all_words.Goals as goal

pub returns-in-None-clause-form : goal.returns-in-None-clause-form
returns-in-None-clause-form c = λ line ws e.
    no_words (map (word_in line) c.loop-words.words) ws (seen_all line c.loop-words.rest.now) (c.in-None.ensures line) (λ none. true≢false (sym ((c.is_end.ensures line).1 none) ∙ c.if-is_end.false)) (sym (c.loop-words.invariant line) ∙ e)
