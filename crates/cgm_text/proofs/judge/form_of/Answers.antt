use Rattle.std.proofs.Common.{◌∷◌, IfErr, sym, ap, ◌∙◌, subst}
use Rattle.cgm_lex.specs.Lexemes.{word}
use Rattle.cgm_model.specs.declared.lists.Lists.{Lists}
use Rattle.cgm_text.specs.Line.{AreJudged}
use Rattle.cgm_text.specs.Progress.{IsFaultOrMemory}
use Rattle.cgm_print.specs.Statements.{sort_word}
use Rattle.cgm_text.specs.Trees.{seen_all}
use Rattle.cgm_text.proofs.Judging.{word_stop}
use Rattle.cgm_text.proofs.judge.form_of.Goals as goal

pub returns-in-None-clause-stop : goal.returns-in-None-clause-stop
returns-in-None-clause-stop c = λ m.
    let line = c.args.line.now in
    rw c.bad.ensures (word_stop m (seen_all line c.args.tokens.now) (λ sort after. c.in-None.ensures line (sort_word sort) after))

pub returns-in-Some-sort_of_word-clause-stop : goal.returns-in-Some-sort_of_word-clause-stop
returns-in-Some-sort_of_word-clause-stop c =
    let line = c.args.line.now in
    let rest = seen_all line c.in-Some.rest.now in
    let first = sym c.bytes_in.ensures ∙ c.in-Some-sort_of_word.ensures.found in
    let begins = c.in-Some.ensures.found line ∙ ap (λ w. word w ∷ rest) first in
    subst (λ ts. IfErr c.form_of_sort.result (λ stop. (m : Lists) → IsFaultOrMemory (AreJudged m ts) stop)) (sym begins) c.form_of_sort.ensures.stop
