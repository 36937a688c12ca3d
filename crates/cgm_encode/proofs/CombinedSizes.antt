-- How large the measure of a total's terms can be, and with it the range of the total.
use Rattle.std.proofs.Common.{◌≡◌, ℕ, zero, suc, ◌+◌, ◌*◌, ◌<◌, ◌≤◌, ◌==◌, Bool, true, false, cond, List, [], ◌∷◌, length, map, refl, sym, ap, ◌∙◌, arith}
use Rattle.std.proofs.Math.Nat.{mul-le-mul_right}
use Rattle.std.specs.Prelude.{ℤ, pos, neg_ℤ, ◌+ℤ◌, ◌*ℤ◌, int_lt, unsigned_abs, sum_by}
use Rattle.std.specs.List.{All, range_with_len}
use Rattle.std.proofs.lemmas.Bool.{cond_both, eqb-true}
use Rattle.std.proofs.lemmas.List.Sums.{sum_by-cons, sum_by-le}
use Rattle.cgm_atom.specs.declared.constraints.Var.{Var}
use Rattle.cgm_atom.specs.Bounds.{Bounds, lower_of, upper_of}
use Rattle.cgm_atom.specs.Limits.{greatest_size, measure}
use Rattle.cgm_atom.specs.Narrowing.{greatest_activity, greatest_term}
use Rattle.cgm_atom.proofs.RowSums.{high_product_size, low_product_size}
use Rattle.cgm_enc_formula.proofs.TermMeasures.{nonzero-measure, opposite_size, size_sum}
use Rattle.cgm_encode.specs.Totals.{Share, Total, combined, combined_terms, least_activity, least_term, opposite_total, total_range}

module _ (b : Bounds) where
  -- number size times greatest bound size
  abbrev pub share_size : Share → ℕ
  share_size s = unsigned_abs s.0 * greatest_size b s.1

  -- ---- a coefficient for each of the variables from a on

  abbrev spread : (ℕ → ℤ) → ℕ → ℕ → ℕ
  spread c a n = measure b (map (λ x. (c x, record { 0 = x })) (range_with_len a n))

  spread_none : (a n : ℕ) → spread (λ _. pos 0) a n ≡ 0
  spread_none a zero = refl
  spread_none a (suc n) = let rest = spread_none (a + 1) n in omega arith

  spread_both : (c d : ℕ → ℤ) (a n : ℕ) → spread (λ x. c x +ℤ d x) a n ≤ spread c a n + spread d a n
  spread_both c d a zero = omega arith
  spread_both c d a (suc n) =
      both (greatest_size b a) (unsigned_abs (c a +ℤ d a)) (unsigned_abs (c a)) (unsigned_abs (d a)) (spread (λ x. c x +ℤ d x) (a + 1) n) (spread c (a + 1) n) (spread d (a + 1) n)
      (size_sum (c a) (d a)) (spread_both c d (a + 1) n)
    where
      both : (s e c d x y z : ℕ) → e ≤ c + d → x ≤ y + z → e * s + x ≤ (c * s + y) + (d * s + z)
      both s e c d x y z h k =
          let scaled : e * s ≤ (c + d) * s = mul-le-mul_right s h in
          grind arith

  abbrev single : ℤ → ℕ → ℕ → ℤ
  single k y x = cond (y == x) k (pos 0)

  before_by : (k : ℤ) (size rest : ℕ) (t : Bool) → t ≡ false → rest ≡ 0 → unsigned_abs (cond t k (pos 0)) * size + rest ≡ 0
  before_by k size rest true e h = absurd (cc)
  before_by k size rest false e h = omega arith

  apart : (y a : ℕ) (t : Bool) → (y == a) ≡ t → y < a → t ≡ false
  apart y a true e l = absurd (let same = eqb-true y a e in omega arith)
  apart y a false e l = refl

  spread_before : (k : ℤ) (y a n : ℕ) → y < a → spread (single k y) a n ≡ 0
  spread_before k y a zero l = refl
  spread_before k y a (suc n) l = before_by k (greatest_size b a) (spread (single k y) (a + 1) n) (y == a) (apart y a (y == a) refl l) (spread_before k y (a + 1) n (omega arith))

  met_by : (k : ℤ) (y a n : ℕ) (t : Bool) → (y == a) ≡ t → spread (single k y) (a + 1) n ≤ unsigned_abs k * greatest_size b y → unsigned_abs (cond t k (pos 0)) * greatest_size b a + spread (single k y) (a + 1) n ≤ unsigned_abs k * greatest_size b y
  met_by k y a n true e h =
      let same : y ≡ a = eqb-true y a e in
      let none = spread_before k y (a + 1) n (omega arith) in
      let at : unsigned_abs k * greatest_size b y ≡ unsigned_abs k * greatest_size b a = ap (λ x. unsigned_abs k * greatest_size b x) same in
      omega arith
  met_by k y a n false e h = omega arith

  spread_single : (k : ℤ) (y a n : ℕ) → spread (single k y) a n ≤ unsigned_abs k * greatest_size b y
  spread_single k y a zero = omega arith
  spread_single k y a (suc n) = met_by k y a n (y == a) refl (spread_single k y (a + 1) n)

  spread_shares : (n : ℕ) (shares : List Share) → spread (combined shares) 0 n ≤ sum_by share_size shares
  spread_shares n [] = let none = spread_none 0 n in omega arith
  spread_shares n (s ∷ shares) =
      let both = spread_both (single s.0 s.1) (combined shares) 0 n in
      let one = spread_single s.0 s.1 0 n in
      let rest = spread_shares n shares in
      let split = sum_by-cons share_size s shares in
      omega arith

  pub terms-measure : (n : ℕ) (shares : List Share) → measure b (combined_terms n shares) ≤ sum_by share_size shares
  terms-measure n shares =
      let all = spread_shares n shares in
      let kept = nonzero-measure b (map (λ x. (combined shares x, record { 0 = x })) (range_with_len 0 n)) in
      omega arith

  pub shares-few : (most : ℕ) (shares : List Share) → All (λ s. share_size s ≤ most) shares → sum_by share_size shares ≤ length shares * most
  shares-few most shares h = sum_by-le share_size most shares h

  pub opposite-shares : (t : Total) → sum_by share_size (opposite_total t).shares ≡ sum_by share_size t.shares
  opposite-shares t = turned t.shares
    where
      turned : (shares : List Share) → sum_by share_size (map (λ s. (neg_ℤ s.0, s.1)) shares) ≡ sum_by share_size shares
      turned [] = refl
      turned (s ∷ shares) =
          sum_by-cons share_size (neg_ℤ s.0, s.1) (map (λ (u : Share). (neg_ℤ u.0, u.1)) shares)
          ∙ ap (λ n. n * greatest_size b s.1 + sum_by share_size (map (λ (u : Share). (neg_ℤ u.0, u.1)) shares)) (opposite_size s.0)
          ∙ ap (λ n. share_size s + n) (turned shares)
          ∙ sym (sum_by-cons share_size s shares)

  -- ---- the range

  least_term_size : (c : ℤ) (x : ℕ) → unsigned_abs (least_term b c x) ≤ unsigned_abs c * greatest_size b x
  least_term_size c x =
      cond_both (int_lt c (pos 0)) (c *ℤ upper_of b x) (c *ℤ lower_of b x) (λ z. unsigned_abs z ≤ unsigned_abs c * greatest_size b x)
      (λ _. high_product_size c (lower_of b x) (upper_of b x)) (λ _. low_product_size c (lower_of b x) (upper_of b x))

  greatest_term_size : (c : ℤ) (x : ℕ) → unsigned_abs (greatest_term b c x) ≤ unsigned_abs c * greatest_size b x
  greatest_term_size c x =
      cond_both (int_lt c (pos 0)) (c *ℤ lower_of b x) (c *ℤ upper_of b x) (λ z. unsigned_abs z ≤ unsigned_abs c * greatest_size b x)
      (λ _. low_product_size c (lower_of b x) (upper_of b x)) (λ _. high_product_size c (lower_of b x) (upper_of b x))

  added : (x y : ℤ) (n k : ℕ) → unsigned_abs x ≤ n → unsigned_abs y ≤ k → unsigned_abs (x +ℤ y) ≤ n + k
  added x y n k h g = let both = size_sum x y in omega arith

  pub least_size : (terms : List (ℤ × Var)) → unsigned_abs (least_activity b terms) ≤ measure b terms
  least_size [] = omega arith
  least_size (t ∷ terms) = added (least_term b t.0 t.1.0) (least_activity b terms) (unsigned_abs t.0 * greatest_size b t.1.0) (measure b terms) (least_term_size t.0 t.1.0) (least_size terms)

  pub greatest_activity_size : (terms : List (ℤ × Var)) → unsigned_abs (greatest_activity b terms) ≤ measure b terms
  greatest_activity_size [] = omega arith
  greatest_activity_size (t ∷ terms) = added (greatest_term b t.0 t.1.0) (greatest_activity b terms) (unsigned_abs t.0 * greatest_size b t.1.0) (measure b terms) (greatest_term_size t.0 t.1.0) (greatest_activity_size terms)

  -- a total with shares of at most this size in all, and a constant
  pub record IsModest (most limit : ℕ) (t : Total) : Type 0 where
    pub shares : sum_by share_size t.shares ≤ most
    pub constant : unsigned_abs t.constant ≤ limit

  pub range_sizes : (most limit n : ℕ) (t : Total) → IsModest most limit t → (unsigned_abs (total_range b n t).0 ≤ most + limit) × (unsigned_abs (total_range b n t).1 ≤ most + limit)
  range_sizes most limit n t h =
      let terms = combined_terms n t.shares in
      let all = terms-measure n t.shares in
      let few = h.shares in
      let low = least_size terms in
      let high = greatest_activity_size terms in (
        added (least_activity b terms) t.constant most limit (omega arith) h.constant,
        added (greatest_activity b terms) t.constant most limit (omega arith) h.constant,
      )
