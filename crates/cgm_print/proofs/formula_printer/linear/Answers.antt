use Rattle.std.proofs.Common.{◌∷◌, codes, map}
use Rattle.cgm_lex.specs.Lexemes.{opening, closing, word}
use Rattle.cgm_model.specs.Model.{lists_of}
use Rattle.cgm_print.specs.Canonical.{written_linear, written_term}
use Rattle.cgm_print.specs.Written.{spelled_linear, spelled_terms}
use Rattle.cgm_print.proofs.Printed.{alike, finish, then_, one_term, many_terms}
use Rattle.cgm_print.proofs.formula_printer.linear.Goals as goal

pub returns-in-len1 : goal.returns-in-len1
returns-in-len1 c =
    let m = lists_of c.args.model.now in
    let ts = c.args.linear.now in
    alike c.terms.result c.args.printer.now c.terms.new.printer (spelled_terms (map (written_term m) ts)) (spelled_linear (written_linear m ts))
    (λ after. one_term m ts after c.in-len1.len_at_least c.in-len1.len_below) c.terms.ensures

pub returns-in_ok-terms-in-len2-up : goal.returns-in_ok-terms-in-len2-up
returns-in_ok-terms-in-len2-up c =
    let m = lists_of c.args.model.now in
    let ts = c.args.linear.now in
    let a = c.args.printer.now in
    let b = c.open_with.new.self in
    let d = c.terms-in-len2-up.new.printer in
    let first = then_ a b d (λ after. opening ∷ word (codes "+") ∷ after) (spelled_terms (map (written_term m) ts)) c.in_ok-open_with-in-len2-up.ensures c.in_ok-terms-in-len2-up.ensures in
    finish c.close.result a d c.close.new.self (λ after. opening ∷ word (codes "+") ∷ spelled_terms (map (written_term m) ts) after) (λ after. closing ∷ after) (spelled_linear (written_linear m ts))
    (λ after. many_terms m ts after c.in-len2-up.len_at_least) first c.close.ensures
