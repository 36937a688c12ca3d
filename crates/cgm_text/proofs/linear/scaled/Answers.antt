use Rattle.std.proofs.Common.{List, ◌∷◌, codes, ap, ◌∙◌}
use Rattle.cgm_lex.specs.Lexemes.{Lexeme, number, word}
use Rattle.cgm_text.specs.Trees.{seen_all, word_in}
use Rattle.cgm_text.proofs.Terms.{no_factor, no_scaled_end, no_scaled_name, no_times}
use Rattle.cgm_text.proofs.linear.scaled.Goals as goal

pub returns-in-None-clause-none : goal.returns-in-None-clause-none
returns-in-None-clause-none c = no_times (seen_all c.args.line.now c.args.tokens.now) c.in-None.ensures

pub returns-in-None-take_number-clause-none : goal.returns-in-None-take_number-clause-none
returns-in-None-take_number-clause-none c =
    let line = c.args.line.now in
    no_factor (seen_all line c.args.tokens.now) (seen_all line c.in-Some.rest.now) c.in-Some.ensures.found (c.in-None-take_number.ensures line)

pub returns-in-None-take_word-clause-none : goal.returns-in-None-take_word-clause-none
returns-in-None-take_word-clause-none c =
    let line = c.args.line.now in
    no_scaled_name c.in-Some-take_number.k (seen_all line c.args.tokens.now) (seen_all line c.in-Some-take_number.rest.now)
    (c.in-Some.ensures.found ∙ ap (λ (ts : List Lexeme). word (codes "*") ∷ ts) (c.in-Some-take_number.ensures.found line)) (c.in-None-take_word.ensures line)

pub returns-in-None-take-clause-none : goal.returns-in-None-take-clause-none
returns-in-None-take-clause-none c =
    let line = c.args.line.now in
    let k = c.in-Some-take_number.k in
    no_scaled_end k (word_in line c.in-Some-take_word.name) (seen_all line c.args.tokens.now) (seen_all line c.in-Some-take_word.rest.now)
    (c.in-Some.ensures.found ∙ ap (λ (ts : List Lexeme). word (codes "*") ∷ ts) (c.in-Some-take_number.ensures.found line ∙ ap (λ (ts : List Lexeme). number k ∷ ts) (c.in-Some-take_word.ensures.found line)))
    (c.in-None-take.ensures line)
