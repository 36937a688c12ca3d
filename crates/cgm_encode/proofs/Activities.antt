-- The terms of a total, and between which numbers values of a box bring their sum.
use Rattle.std.proofs.Common.{◌≡◌, ◌≢◌, ℕ, zero, suc, ◌+◌, ◌<◌, ◌≤◌, Bool, true, false, cond, not, List, [], ◌∷◌, length, map, refl, sym, subst, arith}
use Rattle.std.specs.Prelude.{ℤ, pos, negsuc, ◌+ℤ◌, ◌*ℤ◌, ◌≤ℤ◌, int_lt}
use Rattle.std.specs.List.{All, range_with_len}
use Rattle.std.proofs.lemmas.Bool.{cond-false, iff_false}
use Rattle.std.proofs.lemmas.Bool.Decides.{Decides-int_eq}
use Rattle.std.proofs.lemmas.Int.{ints}
use Rattle.cgm_atom.specs.declared.constraints.Var.{Var}
use Rattle.cgm_atom.specs.Atoms.{activity}
use Rattle.cgm_atom.specs.Bounds.{Bounds, lower_of, upper_of, value_of}
use Rattle.cgm_atom.specs.Limits.{AreTermsOf, IsAbsent}
use Rattle.cgm_atom.specs.Narrowing.{greatest_activity, greatest_term}
use Rattle.cgm_atom.proofs.Keeping.{greatest_term-pos}
use Rattle.cgm_atom.proofs.SignedSteps.{lt_is_false, scaled_down, scaled_up, sum_at_most}
use Rattle.cgm_enc_formula.specs.Terms.{is_zero, nonzero}
use Rattle.cgm_base.specs.Place.{EachFrom}
use Rattle.cgm_encode.specs.Problem.{box_of_problem}
use Rattle.cgm_encode.specs.Totals.{Range, Share, Total, combined, combined_terms, least_activity, least_term, total_range, total_value}
use Rattle.cgm_encode.proofs.Boxes.{Lies, lies_at}
use Rattle.cgm_encode.proofs.TotalSums.{shared, terms-sum}

-- ---- the terms are known, distinct and not 0

absent_by : (x : ℕ) (t : ℤ × Var) (rest : List (ℤ × Var)) (z : Bool) → t.1.0 ≢ x → IsAbsent x rest → IsAbsent x (cond (not z) (t ∷ rest) rest)
absent_by x t rest true other h = h
absent_by x t rest false other h = (other, h)

terms_by : (count : ℕ) (t : ℤ × Var) (rest : List (ℤ × Var)) (z : Bool) → is_zero t ≡ z → t.1.0 < count → IsAbsent t.1.0 rest → AreTermsOf count rest → AreTermsOf count (cond (not z) (t ∷ rest) rest)
terms_by count t rest true e l absent h = h
terms_by count t rest false e l absent h = (l, iff_false (Decides-int_eq t.0 (pos 0)) e, absent, h)

abbrev terms_of : (ℕ → ℤ) → ℕ → ℕ → List (ℤ × Var)
terms_of c a n = nonzero (map (λ x. (c x, record { 0 = x })) (range_with_len a n))

other_than : (x a : ℕ) → x < a → a ≢ x
other_than x a l e = omega arith

terms_absent : (c : ℕ → ℤ) (a n x : ℕ) → x < a → IsAbsent x (terms_of c a n)
terms_absent c a zero x l = tt
terms_absent c a (suc n) x l =
    absent_by x (c a, record { 0 = a }) (terms_of c (a + 1) n) (is_zero (c a, record { 0 = a })) (other_than x a l) (terms_absent c (a + 1) n x (omega arith))

are_terms : (c : ℕ → ℤ) (count a n : ℕ) → a + n ≤ count → AreTermsOf count (terms_of c a n)
are_terms c count a zero l = tt
are_terms c count a (suc n) l =
    terms_by count (c a, record { 0 = a }) (terms_of c (a + 1) n) (is_zero (c a, record { 0 = a })) refl (omega arith)
    (terms_absent c (a + 1) n a (omega arith)) (are_terms c count (a + 1) n (omega arith))

pub combined_are_terms : (count n : ℕ) (shares : List Share) → n ≤ count → AreTermsOf count (combined_terms n shares)
combined_are_terms count n shares l = are_terms (combined shares) count 0 n (omega arith)

pub terms_fresh : (n : ℕ) (shares : List Share) (v : ℕ) → n ≤ v → IsAbsent v (combined_terms n shares)
terms_fresh n shares v l = later (combined shares) 0 n v (omega arith)
  where
    later : (c : ℕ → ℤ) (a n x : ℕ) → a + n ≤ x → IsAbsent x (terms_of c a n)
    later c a zero x l = tt
    later c a (suc n) x l =
        absent_by x (c a, record { 0 = a }) (terms_of c (a + 1) n) (is_zero (c a, record { 0 = a })) (before x a (omega arith)) (later c (a + 1) n x (omega arith))
      where
        before : (x a : ℕ) → a < x → a ≢ x
        before x a l e = omega arith

-- ---- sums in a box

pub least_term-pos : (b : Bounds) (n x : ℕ) → least_term b (pos n) x ≡ pos n *ℤ lower_of b x
least_term-pos b n x = cond-false (int_lt (pos n) (pos 0)) (pos n *ℤ upper_of b x) (pos n *ℤ lower_of b x) (lt_is_false (pos n) (pos 0) (omega (arith, ints)))

abbrev pub IsIn : Bounds → List ℤ → ℕ → Type 0
IsIn b values x = (lower_of b x ≤ℤ value_of values x) × (value_of values x ≤ℤ upper_of b x)

term_between : (b : Bounds) (values : List ℤ) (c : ℤ) (x : ℕ) → IsIn b values x → (least_term b c x ≤ℤ (c *ℤ value_of values x)) × ((c *ℤ value_of values x) ≤ℤ greatest_term b c x)
term_between b values (pos n) x h =
    let v : ℤ = value_of values x in (
      subst (λ (z : ℤ). z ≤ℤ (pos n *ℤ v)) (sym (least_term-pos b n x)) (scaled_up n (lower_of b x) v h.0),
      subst (λ (z : ℤ). (pos n *ℤ v) ≤ℤ z) (sym (greatest_term-pos b n x)) (scaled_up n v (upper_of b x) h.1),
    )
term_between b values (negsuc n) x h =
    let v : ℤ = value_of values x in
    (scaled_down n v (upper_of b x) h.1, scaled_down n (lower_of b x) v h.0)

abbrev pub IsBetween : Bounds → List ℤ → List (ℤ × Var) → Type 0
IsBetween b values terms = (least_activity b terms ≤ℤ activity values terms) × (activity values terms ≤ℤ greatest_activity b terms)

pub activity_between : (b : Bounds) (values : List ℤ) (n : ℕ) → ((x : ℕ) → x < n → IsIn b values x) → (terms : List (ℤ × Var)) → AreTermsOf n terms → IsBetween b values terms
activity_between b values n within [] known = (omega (arith, ints), omega (arith, ints))
activity_between b values n within (t ∷ terms) known =
    let x = t.1.0 in
    let v : ℤ = t.0 *ℤ value_of values x in
    let one = term_between b values t.0 x (within x known.0) in
    let rest = activity_between b values n within terms known.3 in (
      sum_at_most (least_term b t.0 x) v (least_activity b terms) (activity values terms) one.0 rest.0,
      sum_at_most v (greatest_term b t.0 x) (activity values terms) (greatest_activity b terms) one.1 rest.1,
    )

shifted : (low high l s d : ℤ) → l ≡ s → low ≤ℤ l → l ≤ℤ high → ((low +ℤ d) ≤ℤ (s +ℤ d)) × ((s +ℤ d) ≤ℤ (high +ℤ d))
shifted low high l s d e below above = (omega (arith, ints), omega (arith, ints))

-- a total of variables in the box lies in its range
pub total_between : (values : List ℤ) (rs : List Range) (n : ℕ) (t : Total) → n ≤ length rs → EachFrom 0 (Lies values) rs → All (λ s. s.1 < n) t.shares → ((total_range (box_of_problem rs) n t).0 ≤ℤ total_value values t) × (total_value values t ≤ℤ (total_range (box_of_problem rs) n t).1)
total_between values rs n t few each known =
    let b = box_of_problem rs in
    let terms = combined_terms n t.shares in
    let within : (x : ℕ) → x < n → IsIn b values x = λ x l. lies_at values rs each x (omega arith) in
    let between = activity_between b values n within terms (combined_are_terms n n t.shares (omega arith)) in
    shifted (least_activity b terms) (greatest_activity b terms) (activity values terms) (shared values t.shares) t.constant (terms-sum values n t.shares known) between.0 between.1
