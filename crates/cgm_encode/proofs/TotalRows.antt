-- The rows of a total are met exactly where its variable has its value.
use Rattle.std.proofs.Common.{◌≡◌, ℕ, ◌<◌, ◌↔◌, List, [], ◌∷◌, arith}
use Rattle.std.specs.Prelude.{ℤ, pos, negsuc, neg_ℤ, IsTrue, ◌+ℤ◌, ◌*ℤ◌, ◌≤ℤ◌}
use Rattle.std.specs.List.{All}
use Rattle.std.proofs.lemmas.Int.{ints}
use Rattle.std.proofs.lemmas.List.Elements.{All-cons, All-head, All-nil, All-tail}
use Rattle.cgm_atom.specs.declared.constraints.Row.{Row}
use Rattle.cgm_atom.specs.Atoms.{activity, row_true}
use Rattle.cgm_atom.specs.Bounds.{value_of}
use Rattle.cgm_atom.proofs.SignedSteps.{le_from_true, le_is_true}
use Rattle.cgm_enc_formula.specs.Definitions.{negative}
use Rattle.cgm_encode.specs.Totals.{Total, combined_terms, row_of, total_rows, total_value}
use Rattle.cgm_encode.proofs.TotalSums.{negative-sum, shared, terms-sum}

abbrev pub AreMet : List ℤ → List Row → Type 0
AreMet values rows = All (λ r. IsTrue (row_true values r)) rows

enclosed : (v l n s d : ℤ) → n ≡ neg_ℤ l → l ≡ s → d ≤ℤ ((pos 1 *ℤ v) +ℤ n) → neg_ℤ d ≤ℤ ((negsuc 0 *ℤ v) +ℤ l) → v ≡ s +ℤ d
enclosed v l n s d e f low high = omega (arith, ints)

above : (v l n s d : ℤ) → n ≡ neg_ℤ l → l ≡ s → v ≡ s +ℤ d → d ≤ℤ ((pos 1 *ℤ v) +ℤ n)
above v l n s d e f h = omega (arith, ints)

below : (v l s d : ℤ) → l ≡ s → v ≡ s +ℤ d → neg_ℤ d ≤ℤ ((negsuc 0 *ℤ v) +ℤ l)
below v l s d f h = omega (arith, ints)

pub total_rows_mean : (values : List ℤ) (n : ℕ) (t : Total) (v : ℕ) → All (λ s. s.1 < n) t.shares → AreMet values (total_rows n t v) ↔ (value_of values v ≡ total_value values t)
total_rows_mean values n t v known =
    let terms = combined_terms n t.shares in
    let first = row_of ((pos 1, record { 0 = v }) ∷ negative terms) t.constant in
    let second = row_of ((negsuc 0, record { 0 = v }) ∷ terms) (neg_ℤ t.constant) in
    let P : Row → Type 0 = λ r. IsTrue (row_true values r) in
    let x : ℤ = value_of values v in
    let l : ℤ = activity values terms in
    let n' : ℤ = activity values (negative terms) in
    let s : ℤ = shared values t.shares in
    let e = negative-sum values terms in
    let f = terms-sum values n t.shares known in (
      λ h. enclosed x l n' s t.constant e f
          (le_from_true t.constant ((pos 1 *ℤ x) +ℤ n') (All-head P first (second ∷ []) h))
          (le_from_true (neg_ℤ t.constant) ((negsuc 0 *ℤ x) +ℤ l) (All-head P second [] (All-tail P first (second ∷ []) h))),
      λ h. All-cons P first (second ∷ []) (le_is_true t.constant ((pos 1 *ℤ x) +ℤ n') (above x l n' s t.constant e f h))
          (All-cons P second [] (le_is_true (neg_ℤ t.constant) ((negsuc 0 *ℤ x) +ℤ l) (below x l s t.constant f h)) (All-nil P)),
    )
