use Rattle.std.proofs.Common.{◌≡◌, ◌≢◌, ◌∷◌, pos, codes, arith, subst, ℤ, to_z, of_z, w64}
use Rattle.std.proofs.lemmas.Int.{ints}
use Rattle.cgm_lex.specs.Lexemes.{opening, closing, number, word}
use Rattle.cgm_model.specs.Model.{lists_of}
use Rattle.cgm_print.specs.Canonical.{written_term}
use Rattle.cgm_print.specs.Printing.{Writes}
use Rattle.cgm_print.specs.Written.{spelled_term}
use Rattle.cgm_print.proofs.Printed.{alike, finish, then_, plain_printed, scaled_printed}
use Rattle.cgm_print.proofs.formula_printer.term.Goals as goal

pub returns-then-term-eq1 : goal.returns-then-term-eq1
returns-then-term-eq1 c =
    let m = lists_of c.args.model.now in
    let t = c.args.term in
    let x = c.number_name-name.result.now in
    let one : c.args.term.0 ≡ pos 1 = omega (arith, ints) in
    alike c.word.result c.args.printer.now c.word.new.self (λ after. word x ∷ after) (spelled_term (written_term m t))
    (λ after. plain_printed m t x after c.number_name-name.ensures one) c.word.ensures

pub returns : goal.returns
returns c =
    let m = lists_of c.args.model.now in
    let t = c.args.term in
    let x = c.number_name-name.result.now in
    let other : c.args.term.0 ≢ pos 1 = λ same. absurd (omega (arith, ints, same)) in
    let a = c.args.printer.now in
    let b = c.open_with.new.self in
    let d = c.number.new.self in
    let e = c.word-2.new.self in
    let same : to_z w64 (of_z w64 c.args.term.0) ≡ c.args.term.0 = omega (arith, ints) in
    let numbered : Writes b d (λ after. number t.0 ∷ after) = subst (λ (z : ℤ). Writes b d (λ after. number z ∷ after)) same c.in_ok-number.ensures in
    let first = then_ a b d (λ after. opening ∷ word (codes "*") ∷ after) (λ after. number t.0 ∷ after) c.in_ok-open_with.ensures numbered in
    let all = then_ a d e (λ after. opening ∷ word (codes "*") ∷ number t.0 ∷ after) (λ after. word x ∷ after) first c.in_ok-word.ensures in
    finish c.close.result a e c.close.new.self (λ after. opening ∷ word (codes "*") ∷ number t.0 ∷ word x ∷ after) (λ after. closing ∷ after) (spelled_term (written_term m t))
    (λ after. scaled_printed m t x after c.number_name-name.ensures other) all c.close.ensures
