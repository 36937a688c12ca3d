use Rattle.std.proofs.Common.{◌≡◌, ap, ◌∙◌, sym, length, List, ℕ, [], ◌∷◌, refl, arith}
use Rattle.std.proofs.lemmas.Bool.{eqb-true, eq-eqb}
use Rattle.cgm_cert.proofs.Whole.{empty_text, no_feed}
use Rattle.cgm_cert.proofs.reader.fault_without_feed.Goals as goal

nil_is : (xs : List ℕ) → length xs ≡ 0 → xs ≡ []
nil_is [] e = refl
nil_is (x ∷ xs) e = absurd (omega (arith, e))

pub returns-then-is_empty : goal.returns-then-is_empty
returns-then-is_empty c =
    empty_text c.args.text.now (nil_is c.args.text.now (eqb-true (length c.args.text.now) 0 (sym c.is_empty.ensures ∙ c.if-is_empty.true)))

pub returns-else-is_empty : goal.returns-else-is_empty
returns-else-is_empty c =
    no_feed c.args.text.now c.requires
    (λ e.
    let told = c.is_empty.ensures ∙ eq-eqb (length c.args.text.now) 0 (ap (λ l. length l) e) in
    let untrue = c.if-is_empty.false in
    absurd (cc))
