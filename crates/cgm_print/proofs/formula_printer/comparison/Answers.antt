use Rattle.std.proofs.Common.{◌≡◌, ◌∷◌, refl, subst, List, ℕ, ℤ, arith, to_z, of_z, w64}
use Rattle.std.proofs.lemmas.Int.{ints}
use Rattle.cgm_lex.specs.Lexemes.{opening, closing, number, word}
use Rattle.cgm_model.specs.Model.{lists_of}
use Rattle.cgm_print.specs.Canonical.{written_linear}
use Rattle.cgm_print.specs.Printing.{Writes}
use Rattle.cgm_print.specs.Written.{compared, comparison_word, spelled, spelled_linear}
use Rattle.cgm_print.proofs.Printed.{finish, then_}
use Rattle.cgm_print.proofs.formula_printer.comparison.Goals as goal

pub returns : goal.returns
returns c =
    let m = lists_of c.args.model.now in
    let w = written_linear m c.args.total.now.terms in
    let how = comparison_word c.args.how in
    let k = c.args.k in
    let a = c.args.printer.now in
    let b = c.open_with.new.self in
    let d = c.linear.new.printer in
    let e = c.number.new.self in
    let opened : Writes a b (λ after. opening ∷ word how ∷ after) =
    subst (λ (x : List ℕ). Writes a b (λ after. opening ∷ word x ∷ after)) c.word-first.ensures c.in_ok-open_with.ensures in
    let first : Writes a d (λ after. opening ∷ word how ∷ spelled_linear w after) =
    then_ a b d (λ after. opening ∷ word how ∷ after) (spelled_linear w) opened (rw c.as_slice.ensures at c.in_ok-linear.ensures) in
    let same : to_z w64 (of_z w64 c.args.k) ≡ c.args.k = omega (arith, ints) in
    let numbered : Writes d e (λ after. number k ∷ after) = subst (λ (z : ℤ). Writes d e (λ after. number z ∷ after)) same c.in_ok-number.ensures in
    let all = then_ a d e (λ after. opening ∷ word how ∷ spelled_linear w after) (λ after. number k ∷ after) first numbered in
    finish c.close.result a e c.close.new.self (λ after. opening ∷ word how ∷ spelled_linear w (number k ∷ after)) (λ after. closing ∷ after) (spelled (compared c.args.how w k))
    (λ after. refl) all c.close.ensures
