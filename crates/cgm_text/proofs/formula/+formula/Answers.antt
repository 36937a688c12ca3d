use Rattle.std.proofs.Common.{◌≡◌, List, ◌∷◌, codes, length, map, ap, sym, subst, ◌∙◌, arith, IfOk, IfErr}
use Rattle.cgm_lex.specs.Lexemes.{Lexeme, opening, word}
use Rattle.cgm_text.specs.Trees.{IsFor, formula_in, seen_all}
use Rattle.cgm_print.specs.Written.{joint_word, pairing_word, spelled, spelled_each, formulas_of}
use Rattle.cgm_text.proofs.Exits.{fewer_left, weaken}
use Rattle.cgm_text.proofs.Formulas.{joint_found, negation_found, no_connective, no_joint, no_joint_parts, no_negation, no_negation_end, no_pairing, no_pairing_end, no_pairing_other, no_parts_end, no_start, pairing_found, parts_more}
use Rattle.cgm_text.proofs.formula.+formula.Goals as goal
use Rattle.cgm_text.specs.declared.written.Connective.{Connective}
use Rattle.cgm_text.specs.Parsed.{BeginsNoFormula, BeginsNoParts, connective_word}

pub bracketed-returns-in-None-clause-form : goal.bracketed-returns-in-None-clause-form
bracketed-returns-in-None-clause-form t c =
    no_connective (seen_all c.args.line.now c.args.tokens.now) c.in-None.ensures

pub bracketed-returns-in-Not-clause-found : goal.bracketed-returns-in-Not-clause-found
bracketed-returns-in-Not-clause-found t c =
    let line = c.args.line.now in
    let begins = c.in-Some.ensures.found ∙ ap (λ (w : Connective). word (connective_word w) ∷ seen_all line c.in-Some.rest.now) c.in-Not.is in
    subst (λ (ts : List Lexeme). IfOk c.negation.result (λ parts. opening ∷ ts ≡ spelled (formula_in line parts.0) (seen_all line parts.1.now))) (sym begins) c.negation.ensures.found

pub bracketed-returns-in-Not-clause-form : goal.bracketed-returns-in-Not-clause-form
bracketed-returns-in-Not-clause-form t c =
    let line = c.args.line.now in
    let begins = c.in-Some.ensures.found ∙ ap (λ (w : Connective). word (connective_word w) ∷ seen_all line c.in-Some.rest.now) c.in-Not.is in
    subst (λ (ts : List Lexeme). IfErr c.negation.result (IsFor (BeginsNoFormula (opening ∷ ts)))) (sym begins) c.negation.ensures.form

pub bracketed-returns-in-Join-clause-found : goal.bracketed-returns-in-Join-clause-found
bracketed-returns-in-Join-clause-found t c =
    let line = c.args.line.now in
    let begins = c.in-Some.ensures.found ∙ ap (λ (w : Connective). word (connective_word w) ∷ seen_all line c.in-Some.rest.now) c.in-Join.is in
    subst (λ (ts : List Lexeme). IfOk c.joined.result (λ parts. opening ∷ ts ≡ spelled (formula_in line parts.0) (seen_all line parts.1.now))) (sym begins) c.joined.ensures.found

pub bracketed-returns-in-Join-clause-form : goal.bracketed-returns-in-Join-clause-form
bracketed-returns-in-Join-clause-form t c =
    let line = c.args.line.now in
    let begins = c.in-Some.ensures.found ∙ ap (λ (w : Connective). word (connective_word w) ∷ seen_all line c.in-Some.rest.now) c.in-Join.is in
    subst (λ (ts : List Lexeme). IfErr c.joined.result (IsFor (BeginsNoFormula (opening ∷ ts)))) (sym begins) c.joined.ensures.form

pub bracketed-returns-in-Pair-clause-found : goal.bracketed-returns-in-Pair-clause-found
bracketed-returns-in-Pair-clause-found t c =
    let line = c.args.line.now in
    let begins = c.in-Some.ensures.found ∙ ap (λ (w : Connective). word (connective_word w) ∷ seen_all line c.in-Some.rest.now) c.in-Pair.is in
    subst (λ (ts : List Lexeme). IfOk c.paired.result (λ parts. opening ∷ ts ≡ spelled (formula_in line parts.0) (seen_all line parts.1.now))) (sym begins) c.paired.ensures.found

pub bracketed-returns-in-Pair-clause-form : goal.bracketed-returns-in-Pair-clause-form
bracketed-returns-in-Pair-clause-form t c =
    let line = c.args.line.now in
    let begins = c.in-Some.ensures.found ∙ ap (λ (w : Connective). word (connective_word w) ∷ seen_all line c.in-Some.rest.now) c.in-Pair.is in
    subst (λ (ts : List Lexeme). IfErr c.paired.result (IsFor (BeginsNoFormula (opening ∷ ts)))) (sym begins) c.paired.ensures.form

pub bracketed-returns-in-Compare-clause-found : goal.bracketed-returns-in-Compare-clause-found
bracketed-returns-in-Compare-clause-found t c =
    let line = c.args.line.now in
    let begins = c.in-Some.ensures.found ∙ ap (λ (w : Connective). word (connective_word w) ∷ seen_all line c.in-Some.rest.now) c.in-Compare.is in
    subst (λ (ts : List Lexeme). IfOk c.compared.result (λ parts. opening ∷ ts ≡ spelled (formula_in line parts.0) (seen_all line parts.1.now))) (sym begins) c.compared.ensures.found

pub bracketed-returns-in-Compare-clause-form : goal.bracketed-returns-in-Compare-clause-form
bracketed-returns-in-Compare-clause-form t c =
    let line = c.args.line.now in
    let begins = c.in-Some.ensures.found ∙ ap (λ (w : Connective). word (connective_word w) ∷ seen_all line c.in-Some.rest.now) c.in-Compare.is in
    subst (λ (ts : List Lexeme). IfErr c.compared.result (IsFor (BeginsNoFormula (opening ∷ ts)))) (sym begins) c.compared.ensures.form

pub formula-returns-in-None-take-clause-form : goal.formula-returns-in-None-take-clause-form
formula-returns-in-None-take-clause-form t c =
    let line = c.args.line.now in
    no_start (seen_all line c.args.tokens.now) (c.in-None.ensures line) (c.in-None-take.ensures line)

pub joined-returns-in-Err-clause-form : goal.joined-returns-in-Err-clause-form
joined-returns-in-Err-clause-form t c =
    let tokens = seen_all c.args.line.now c.args.tokens.now in
    weaken (BeginsNoFormula tokens) (BeginsNoFormula (opening ∷ word (joint_word c.args.joint) ∷ tokens)) c.in-Err.stop c.in-Err.ensures.form (no_joint c.args.joint tokens)

pub joined-returns-in-Ok-join-clause-found : goal.joined-returns-in-Ok-join-clause-found
joined-returns-in-Ok-join-clause-found t c =
    let line = c.args.line.now in
    joint_found c.args.joint (formula_in line c.in-Ok-join.tree) (formula_in line c.in-Ok.first) (formulas_of (map (formula_in line) c.push_parts.new.parts)) (seen_all line c.args.tokens.now) (seen_all line c.in-Ok.after.now) (seen_all line c.in-Ok-push_parts.rest.now) (c.in-Ok-join.ensures.tree line) c.in-Ok.ensures.found c.in-Ok-push_parts.ensures.found

pub joined-returns-in-Err-push_parts-clause-form : goal.joined-returns-in-Err-push_parts-clause-form
joined-returns-in-Err-push_parts-clause-form t c =
    let line = c.args.line.now in
    let tokens = seen_all line c.args.tokens.now in
    let rest = seen_all line c.in-Ok.after.now in
    weaken (BeginsNoParts rest) (BeginsNoFormula (opening ∷ word (joint_word c.args.joint) ∷ tokens)) c.in-Err-push_parts.stop c.in-Err-push_parts.ensures.form (no_joint_parts c.args.joint (formula_in line c.in-Ok.first) tokens rest c.in-Ok.ensures.found)

pub push_parts-returns-in-Some-clause-found : goal.push_parts-returns-in-Some-clause-found
push_parts-returns-in-Some-clause-found t c =
    let line = c.args.line.now in
    c.loop-after.invariant.0 ∙ ap (spelled_each (formulas_of (map (formula_in line) c.loop-after.parts))) (c.in-Some.ensures.found line)

pub push_parts-returns-in-Err-clause-form : goal.push_parts-returns-in-Err-clause-form
push_parts-returns-in-Err-clause-form t c =
    let line = c.args.line.now in
    let tokens = seen_all line c.args.tokens.now in
    let rest = seen_all line c.loop-after.rest.now in
    weaken (BeginsNoFormula rest) (BeginsNoParts tokens) c.in-Err.stop c.in-Err.ensures.form (λ none. no_parts_end (formulas_of (map (formula_in line) c.loop-after.parts)) tokens rest c.loop-after.invariant.0 none (c.in-None.ensures line))

pub push_parts-loop-after-preserved : goal.push_parts-loop-after-preserved
push_parts-loop-after-preserved t c =
    let line = c.args.line.now in
    let shorter = c.in-Ok.ensures.shorter in
    (parts_more line c.loop-after.parts c.push.new.parts c.in-Ok.next (seen_all line c.args.tokens.now) (seen_all line c.loop-after.rest.now) (seen_all line c.in-Ok.after.now) c.in-Ok-push.ensures.pushed c.loop-after.invariant.0 c.in-Ok.ensures.found, omega arith)

pub negation-returns-in-Err-clause-form : goal.negation-returns-in-Err-clause-form
negation-returns-in-Err-clause-form t c =
    let tokens = seen_all c.args.line.now c.args.tokens.now in
    weaken (BeginsNoFormula tokens) (BeginsNoFormula (opening ∷ word (codes "not") ∷ tokens)) c.in-Err.stop c.in-Err.ensures.form (no_negation tokens)

pub negation-returns-in-None-clause-form : goal.negation-returns-in-None-clause-form
negation-returns-in-None-clause-form t c =
    let line = c.args.line.now in
    no_negation_end (formula_in line c.in-Ok.part) (seen_all line c.args.tokens.now) (seen_all line c.in-Ok.rest.now) c.in-Ok.ensures.found (c.in-None.ensures line)

pub negation-returns-in-Ok-negated-clause-found : goal.negation-returns-in-Ok-negated-clause-found
negation-returns-in-Ok-negated-clause-found t c =
    let line = c.args.line.now in
    negation_found (formula_in line c.in-Ok-negated.tree) (formula_in line c.in-Ok.part) (seen_all line c.args.tokens.now) (seen_all line c.in-Ok.rest.now) (seen_all line c.in-Some.rest.now) (c.in-Ok-negated.ensures.tree line) c.in-Ok.ensures.found (c.in-Some.ensures.found line)

pub paired-returns-in-Err-clause-form : goal.paired-returns-in-Err-clause-form
paired-returns-in-Err-clause-form t c =
    let tokens = seen_all c.args.line.now c.args.tokens.now in
    weaken (BeginsNoFormula tokens) (BeginsNoFormula (opening ∷ word (pairing_word c.args.pairing) ∷ tokens)) c.in-Err.stop c.in-Err.ensures.form (no_pairing c.args.pairing tokens)

pub paired-returns-in-Err-formula-clause-form : goal.paired-returns-in-Err-formula-clause-form
paired-returns-in-Err-formula-clause-form t c =
    let line = c.args.line.now in
    let tokens = seen_all line c.args.tokens.now in
    let middle = seen_all line c.in-Ok.rest.now in
    weaken (BeginsNoFormula middle) (BeginsNoFormula (opening ∷ word (pairing_word c.args.pairing) ∷ tokens)) c.in-Err-formula.stop c.in-Err-formula.ensures.form (no_pairing_other c.args.pairing (formula_in line c.in-Ok.one) tokens middle c.in-Ok.ensures.found)

pub paired-returns-in-None-clause-form : goal.paired-returns-in-None-clause-form
paired-returns-in-None-clause-form t c =
    let line = c.args.line.now in
    no_pairing_end c.args.pairing (formula_in line c.in-Ok.one) (formula_in line c.in-Ok-formula.other) (seen_all line c.args.tokens.now) (seen_all line c.in-Ok.rest.now) (seen_all line c.in-Ok-formula.rest.now) c.in-Ok.ensures.found c.in-Ok-formula.ensures.found (c.in-None.ensures line)

pub paired-returns-in-Ok-pair-clause-found : goal.paired-returns-in-Ok-pair-clause-found
paired-returns-in-Ok-pair-clause-found t c =
    let line = c.args.line.now in
    pairing_found c.args.pairing (formula_in line c.in-Ok-pair.tree) (formula_in line c.in-Ok.one) (formula_in line c.in-Ok-formula.other) (seen_all line c.args.tokens.now) (seen_all line c.in-Ok.rest.now) (seen_all line c.in-Ok-formula.rest.now) (seen_all line c.in-Some.rest.now) (c.in-Ok-pair.ensures.tree line) c.in-Ok.ensures.found c.in-Ok-formula.ensures.found (c.in-Some.ensures.found line)

pub bracketed-returns-in-Not-clause-shorter : goal.bracketed-returns-in-Not-clause-shorter
bracketed-returns-in-Not-clause-shorter t c =
    fewer_left c.negation.result (λ parts. length parts.1.now) (length c.in-Some.rest.now) (length c.args.tokens.now) c.in-Some.ensures.shorter c.negation.ensures.shorter

pub bracketed-returns-in-Join-clause-shorter : goal.bracketed-returns-in-Join-clause-shorter
bracketed-returns-in-Join-clause-shorter t c =
    fewer_left c.joined.result (λ parts. length parts.1.now) (length c.in-Some.rest.now) (length c.args.tokens.now) c.in-Some.ensures.shorter c.joined.ensures.shorter

pub bracketed-returns-in-Pair-clause-shorter : goal.bracketed-returns-in-Pair-clause-shorter
bracketed-returns-in-Pair-clause-shorter t c =
    fewer_left c.paired.result (λ parts. length parts.1.now) (length c.in-Some.rest.now) (length c.args.tokens.now) c.in-Some.ensures.shorter c.paired.ensures.shorter

pub bracketed-returns-in-Compare-clause-shorter : goal.bracketed-returns-in-Compare-clause-shorter
bracketed-returns-in-Compare-clause-shorter t c =
    fewer_left c.compared.result (λ parts. length parts.1.now) (length c.in-Some.rest.now) (length c.args.tokens.now) c.in-Some.ensures.shorter c.compared.ensures.shorter

pub formula-returns-in-Some-take-clause-shorter : goal.formula-returns-in-Some-take-clause-shorter
formula-returns-in-Some-take-clause-shorter t c =
    fewer_left c.bracketed.result (λ parts. length parts.1.now) (length c.in-Some-take.rest.now) (length c.args.tokens.now) c.in-Some-take.ensures.shorter c.bracketed.ensures.shorter

pub formula-returns-in-Some-take-clause-found : goal.formula-returns-in-Some-take-clause-found
formula-returns-in-Some-take-clause-found t c =
    let line = c.args.line.now in
    subst (λ (ts : List Lexeme). IfOk c.bracketed.result (λ parts. ts ≡ spelled (formula_in line parts.0) (seen_all line parts.1.now))) (sym (c.in-Some-take.ensures.found line)) c.bracketed.ensures.found

pub formula-returns-in-Some-take-clause-form : goal.formula-returns-in-Some-take-clause-form
formula-returns-in-Some-take-clause-form t c =
    let line = c.args.line.now in
    subst (λ (ts : List Lexeme). IfErr c.bracketed.result (IsFor (BeginsNoFormula ts))) (sym (c.in-Some-take.ensures.found line)) c.bracketed.ensures.form
