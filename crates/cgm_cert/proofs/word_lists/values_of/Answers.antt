use Rattle.std.proofs.Common.{sym, ◌∙◌, ap, map, ◌++◌}
use Rattle.std.specs.Fmt.{signed_decimal}
use Rattle.cgm_atom.specs.Limits.{IsBound}
use Rattle.cgm_cert.specs.Spelling.{further_words}
use Rattle.cgm_cert.proofs.Rows.{stray}
use Rattle.cgm_cert.proofs.word_lists.values_of.Goals as goal

pub returns-in-None-clause-none : goal.returns-in-None-clause-none
returns-in-None-clause-none c = λ others all e.
    let items = c.loop-word.values.items in
    let spelled = sym e ∙ c.loop-word.invariant.spelled ∙ ap (λ l. map signed_decimal items ++ l) c.in-Some.ensures.0 in
    let found = stray signed_decimal IsBound items others c.in-Some.word.now (further_words c.in-Some.after.now) all spelled in
    c.in-None.ensures.none found.0 found.1.0 found.1.1
