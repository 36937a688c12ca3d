use Rattle.std.proofs.Common.{sym, ◌∙◌, ap, map, ◌++◌}
use Rattle.cgm_cert.specs.Printable.{IsHintPrintable}
use Rattle.cgm_cert.specs.Spelling.{hint_word, further_words}
use Rattle.cgm_cert.proofs.Rows.{stray}
use Rattle.cgm_cert.proofs.word_lists.hints_of.Goals as goal

pub returns-in-None-clause-none : goal.returns-in-None-clause-none
returns-in-None-clause-none c = λ others all e.
    let items = c.loop-word.hints.items in
    let spelled = sym e ∙ c.loop-word.invariant.spelled ∙ ap (λ l. map hint_word items ++ l) c.in-Some.ensures.0 in
    let found = stray hint_word IsHintPrintable items others c.in-Some.word.now (further_words c.in-Some.after.now) all spelled in
    c.in-None.ensures.none found.0 found.1.0 found.1.1
