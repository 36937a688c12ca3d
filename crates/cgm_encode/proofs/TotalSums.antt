-- The sum of a total's terms is the sum over its shares.
use Rattle.std.proofs.Common.{◌≡◌, ℕ, zero, suc, ◌+◌, ◌*◌, ◌<◌, ◌≤◌, ◌==◌, Bool, true, false, cond, not, List, [], ◌∷◌, map, refl, sym, ap, ◌∙◌, arith}
use Rattle.std.specs.Prelude.{ℤ, pos, neg_ℤ, ◌+ℤ◌, ◌*ℤ◌}
use Rattle.std.specs.List.{All, range_with_len}
use Rattle.std.proofs.lemmas.Bool.{eqb-false, eqb-true}
use Rattle.std.proofs.lemmas.Bool.Decides.{Decides-int_eq}
use Rattle.std.proofs.lemmas.Int.{ints}
use Rattle.std.proofs.lemmas.List.Elements.{All-head, All-tail}
use Rattle.cgm_atom.specs.declared.constraints.Var.{Var}
use Rattle.cgm_atom.specs.Atoms.{activity}
use Rattle.cgm_atom.specs.Bounds.{value_of}
use Rattle.cgm_enc_formula.specs.Definitions.{negative}
use Rattle.cgm_enc_formula.specs.Terms.{is_zero, nonzero}
use borrow.Author.Differences.{up, down}
use Rattle.cgm_model.specs.Sums.{total_by}
use Rattle.cgm_encode.specs.Totals.{Share, combined, combined_terms}

pub negated_product : (c v : ℤ) → neg_ℤ c *ℤ v ≡ neg_ℤ (c *ℤ v)
negated_product c v = grind (arith, ints)

added_product : (c d v : ℤ) → (c +ℤ d) *ℤ v ≡ (c *ℤ v) +ℤ (d *ℤ v)
added_product c d v =
    let sum : up (c +ℤ d) + (down c + down d) ≡ down (c +ℤ d) + (up c + up d) = omega (arith, ints) in
    let high = ap (λ (n : ℕ). n * up v) sum in
    let low = ap (λ (n : ℕ). n * down v) sum in
    omega (arith, ints, high, low)

module _ (values : List ℤ) where
  -- ---- terms of coefficient 0, and terms with their sign changed

  nonzero_by : (t : ℤ × Var) (terms rest : List (ℤ × Var)) (zero : Bool) → is_zero t ≡ zero → activity values rest ≡ activity values terms → activity values (cond (not zero) (t ∷ rest) rest) ≡ (t.0 *ℤ value_of values t.1.0) +ℤ activity values terms
  nonzero_by t terms rest true e h = nothing t.0 (value_of values t.1.0) (activity values rest) (activity values terms) ((Decides-int_eq t.0 (pos 0)).0 e) h
    where
      nothing : (c v x y : ℤ) → c ≡ pos 0 → x ≡ y → x ≡ (c *ℤ v) +ℤ y
      nothing c v x y e h = rw e (omega (arith, ints))
  nonzero_by t terms rest false e h = ap (λ (z : ℤ). (t.0 *ℤ value_of values t.1.0) +ℤ z) h

  pub nonzero-sum : (terms : List (ℤ × Var)) → activity values (nonzero terms) ≡ activity values terms
  nonzero-sum [] = refl
  nonzero-sum (t ∷ terms) = nonzero_by t terms (nonzero terms) (is_zero t) refl (nonzero-sum terms)

  pub negative-sum : (terms : List (ℤ × Var)) → activity values (negative terms) ≡ neg_ℤ (activity values terms)
  negative-sum [] = refl
  negative-sum (t ∷ terms) = one t.0 (value_of values t.1.0) (activity values (negative terms)) (activity values terms) (negative-sum terms)
    where
      one : (c v x y : ℤ) → x ≡ neg_ℤ y → (neg_ℤ c *ℤ v) +ℤ x ≡ neg_ℤ ((c *ℤ v) +ℤ y)
      one c v x y h = let product = negated_product c v in omega (arith, ints)

  -- ---- a coefficient for each of the variables from a on

  abbrev spread : (ℕ → ℤ) → ℕ → ℕ → ℤ
  spread c a n = activity values (map (λ x. (c x, record { 0 = x })) (range_with_len a n))

  spread_none : (a n : ℕ) → spread (λ _. pos 0) a n ≡ pos 0
  spread_none a zero = refl
  spread_none a (suc n) = nothing (value_of values a) (spread (λ _. pos 0) (a + 1) n) (spread_none (a + 1) n)
    where
      nothing : (v x : ℤ) → x ≡ pos 0 → (pos 0 *ℤ v) +ℤ x ≡ pos 0
      nothing v x h = omega (arith, ints)

  spread_both : (c d : ℕ → ℤ) (a n : ℕ) → spread (λ x. c x +ℤ d x) a n ≡ spread c a n +ℤ spread d a n
  spread_both c d a zero = refl
  spread_both c d a (suc n) = one (c a) (d a) (value_of values a) (spread c (a + 1) n) (spread d (a + 1) n) (spread (λ x. c x +ℤ d x) (a + 1) n) (spread_both c d (a + 1) n)
    where
      one : (c d v x y z : ℤ) → z ≡ x +ℤ y → ((c +ℤ d) *ℤ v) +ℤ z ≡ ((c *ℤ v) +ℤ x) +ℤ ((d *ℤ v) +ℤ y)
      one c d v x y z h = let product = added_product c d v in omega (arith, ints)

  -- a number for one variable alone
  abbrev single : ℤ → ℕ → ℕ → ℤ
  single k y x = cond (y == x) k (pos 0)

  passed_by : (k v x : ℤ) (t : Bool) → t ≡ false → x ≡ pos 0 → (cond t k (pos 0) *ℤ v) +ℤ x ≡ pos 0
  passed_by k v x true e h = absurd (cc)
  passed_by k v x false e h = omega (arith, ints)

  apart : (y a : ℕ) (t : Bool) → (y == a) ≡ t → y < a → t ≡ false
  apart y a true e l = absurd (let same = eqb-true y a e in omega arith)
  apart y a false e l = refl

  spread_before : (k : ℤ) (y a n : ℕ) → y < a → spread (single k y) a n ≡ pos 0
  spread_before k y a zero l = refl
  spread_before k y a (suc n) l = passed_by k (value_of values a) (spread (single k y) (a + 1) n) (y == a) (apart y a (y == a) refl l) (spread_before k y (a + 1) n (omega arith))

  met_by : (k : ℤ) (y a n : ℕ) (t : Bool) → (y == a) ≡ t → a ≤ y → (a + 1 ≤ y → spread (single k y) (a + 1) n ≡ k *ℤ value_of values y) → (cond t k (pos 0) *ℤ value_of values a) +ℤ spread (single k y) (a + 1) n ≡ k *ℤ value_of values y
  met_by k y a n true e l h =
      let same : y ≡ a = eqb-true y a e in
      let none = spread_before k y (a + 1) n (omega arith) in
      here (k *ℤ value_of values a) (spread (single k y) (a + 1) n) none ∙ ap (λ (x : ℕ). k *ℤ value_of values x) (sym same)
    where
      here : (x z : ℤ) → z ≡ pos 0 → x +ℤ z ≡ x
      here x z h = omega (arith, ints)
  met_by k y a n false e l h =
      let other = eqb-false y a e in
      let more : a + 1 ≤ y = later a y l other in
      nothing (value_of values a) (spread (single k y) (a + 1) n) ∙ h more
    where
      nothing : (v x : ℤ) → (pos 0 *ℤ v) +ℤ x ≡ x
      nothing v x = omega (arith, ints)

      later : (a y : ℕ) → a ≤ y → (y ≡ a → ⊥) → a + 1 ≤ y
      later a y l other = grind arith

  spread_single : (k : ℤ) (y a n : ℕ) → a ≤ y → y < a + n → spread (single k y) a n ≡ k *ℤ value_of values y
  spread_single k y a zero l h = absurd (omega arith)
  spread_single k y a (suc n) l h = met_by k y a n (y == a) refl l (λ more. spread_single k y (a + 1) n more (omega arith))

  -- ---- shares

  abbrev pub shared : List Share → ℤ
  shared shares = total_by (λ s. s.0 *ℤ value_of values s.1) shares

  spread_shares : (n : ℕ) (shares : List Share) → All (λ s. s.1 < n) shares → spread (combined shares) 0 n ≡ shared shares
  spread_shares n [] known = spread_none 0 n
  spread_shares n (s ∷ shares) known =
      let here : s.1 < n = All-head (λ (u : Share). u.1 < n) s shares known in
      spread_both (single s.0 s.1) (combined shares) 0 n
      ∙ ap (λ (z : ℤ). z +ℤ spread (combined shares) 0 n) (spread_single s.0 s.1 0 n (omega arith) (omega arith))
      ∙ ap (λ (z : ℤ). (s.0 *ℤ value_of values s.1) +ℤ z) (spread_shares n shares (All-tail (λ (u : Share). u.1 < n) s shares known))

  pub terms-sum : (n : ℕ) (shares : List Share) → All (λ s. s.1 < n) shares → activity values (combined_terms n shares) ≡ shared shares
  terms-sum n shares known = nonzero-sum (map (λ x. (combined shares x, record { 0 = x })) (range_with_len 0 n)) ∙ spread_shares n shares known
