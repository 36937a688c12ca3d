use Rattle.std.proofs.Common.{◌≡◌, ℕ, ◌∷◌, ◌++◌, [], List, append_assoc, not, of_z, to_z, w64, sym, ap, ◌∙◌, rules}
use Rattle.std.specs.Prelude.{ℤ}
use Rattle.std.proofs.lemmas.List.Elements.{filter-append}
use Rattle.cgm_atom.specs.declared.constraints.Var.{Var}
use Rattle.cgm_enc_formula.specs.Terms.{as_terms, is_zero, nonzero}
use Rattle.cgm_encode.proofs.expressions.nonzero_terms.Goals as goal

pub loop-x-preserved : goal.loop-x-preserved
loop-x-preserved c =
    let x : Var = record { 0 = c.in-Some.x.now } in
    let number : to_z w64 (of_z w64 c.in-Some.number.now) ≡ c.in-Some.number.now = search rules in
    let t : ℤ × Var = (c.in-Some.number.now, x) in
    let old = c.loop-x.terms.items in
    let rest = as_terms c.next.new.self in
    ap (λ (l : List (ℤ × Var)). l ++ nonzero rest) (c.in_ok-push_nonzero.ensures ∙ ap (λ (z : ℤ). old ++ nonzero ((z, x) ∷ [])) number)
    ∙ append_assoc old (nonzero (t ∷ [])) (nonzero rest)
    ∙ ap (λ (l : List (ℤ × Var)). old ++ l) (sym (filter-append (λ s. not (is_zero s)) (t ∷ []) rest))
    ∙ ap (λ (es : List (ℕ × ℤ)). old ++ nonzero (as_terms es)) (sym c.in-Some.ensures.steps)
    ∙ c.loop-x.invariant
