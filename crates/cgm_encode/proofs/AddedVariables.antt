-- Variables that are added one after another: those that were added with those that are left come to all.
use Rattle.std.proofs.Common.{◌≡◌, ℕ, zero, suc, ◌+◌, ◌<◌, ◌≤◌, List, [], ◌∷◌, ◌++◌, length, map, refl, sym, ap, ◌∙◌, subst, arith}
use Rattle.std.specs.Prelude.{ℤ, pos, ◌≤ℤ◌, ◌-◌, ◌^◌}
use Rattle.std.specs.List.{All, range_with_len}
use Rattle.std.proofs.lemmas.List.{append-nil, append_assoc, length-append, length-map, length-replicate}
use Rattle.std.proofs.lemmas.List.Elements.{All-cons, All-nil, All-tail}
use Rattle.cgm_atom.specs.Building.{with_var}
use Rattle.cgm_atom.specs.Instance.{Instance, var_count}
use Rattle.cgm_encode.specs.Building.{with_ranges}
use Rattle.cgm_encode.specs.Problem.{bits}
use Rattle.cgm_encode.specs.Totals.{Range}

abbrev pub IsOrderedRange : Range → Type 0
IsOrderedRange r = r.0 ≤ℤ r.1

abbrev made : Instance → List ℤ → List ℤ → Instance
made p lower upper = record p { bounds = record { lower = lower; upper = upper } }

same_made : (p : Instance) (l k u v : List ℤ) → l ≡ k → u ≡ v → made p l u ≡ made p k v
same_made p l k u v e f = ap (λ (x : List ℤ). made p x u) e ∙ ap (λ (x : List ℤ). made p k x) f

pub with_first : (p : Instance) (r : Range) (rest : List Range) → with_ranges (with_var p r.0 r.1) rest ≡ with_ranges p (r ∷ rest)
with_first p r rest =
    same_made p ((p.bounds.lower ++ r.0 ∷ []) ++ map (λ (q : Range). q.0) rest) (p.bounds.lower ++ r.0 ∷ map (λ (q : Range). q.0) rest)
    ((p.bounds.upper ++ r.1 ∷ []) ++ map (λ (q : Range). q.1) rest) (p.bounds.upper ++ r.1 ∷ map (λ (q : Range). q.1) rest)
    (append_assoc p.bounds.lower (r.0 ∷ []) (map (λ (q : Range). q.0) rest))
    (append_assoc p.bounds.upper (r.1 ∷ []) (map (λ (q : Range). q.1) rest))

pub with_none : (p : Instance) → with_ranges p [] ≡ p
with_none p = same_made p (p.bounds.lower ++ []) p.bounds.lower (p.bounds.upper ++ []) p.bounds.upper (append-nil p.bounds.lower) (append-nil p.bounds.upper)

pub count_more : (p : Instance) (lo hi : ℤ) → var_count (with_var p lo hi) ≡ var_count p + 1
count_more p lo hi = length-append p.bounds.lower (lo ∷ [])

pub ranges_count : (p : Instance) (ranges : List Range) → var_count (with_ranges p ranges) ≡ var_count p + length ranges
ranges_count p ranges =
    length-append p.bounds.lower (map (λ (r : Range). r.0) ranges) ∙ ap (λ (k : ℕ). var_count p + k) (length-map ranges (λ (r : Range). r.0))

-- ---- some ranges are added, and the rest is left

pub record AreRangesLeft (old : Instance) (all : List Range) (new : Instance) (rest : List Range) : Type 0 where
  pub ordered : All IsOrderedRange rest
  pub room : var_count new + length rest ≤ 2 ^ 32 - 1
  pub total : with_ranges new rest ≡ with_ranges old all

pub ranges_all : (p : Instance) (ranges : List Range) → All IsOrderedRange ranges → var_count p + length ranges ≤ 2 ^ 32 - 1 → AreRangesLeft p ranges p ranges
ranges_all p ranges ordered room = record { ordered = ordered; room = room; total = refl }

pub ranges_room : (old p : Instance) (all : List Range) (r : Range) (rest : List Range) → AreRangesLeft old all p (r ∷ rest) → var_count p < 2 ^ 32 - 1
ranges_room old p all r rest far = let room = far.room in omega arith

pub ranges_more : (old p q : Instance) (all : List Range) (r : Range) (rest : List Range) → AreRangesLeft old all p (r ∷ rest) → q ≡ with_var p r.0 r.1 → AreRangesLeft old all q rest
ranges_more old p q all r rest far e =
    let room = far.room in
    let count = count_more p r.0 r.1 in
    let next : AreRangesLeft old all (with_var p r.0 r.1) rest = record {
      ordered = All-tail IsOrderedRange r rest far.ordered;
      room = omega arith;
      total = with_first p r rest ∙ far.total;
    } in
    subst (λ (n : Instance). AreRangesLeft old all n rest) (sym e) next

pub ranges_end : (old p : Instance) (all : List Range) → AreRangesLeft old all p [] → p ≡ with_ranges old all
ranges_end old p all far = sym (with_none p) ∙ far.total

-- ---- variables of 0 or 1

pub record AreBitsLeft (old : Instance) (count i : ℕ) (new : Instance) (variables : List ℕ) : Type 0 where
  pub left : AreRangesLeft old (bits count) new (bits (count - i))
  pub variables_are : variables ≡ range_with_len (var_count old) i
  pub count_is : var_count new ≡ var_count old + i

bits_ordered : (n : ℕ) → All IsOrderedRange (bits n)
bits_ordered zero = All-nil IsOrderedRange
bits_ordered (suc n) = All-cons IsOrderedRange (pos 0, pos 1) (bits n) (omega arith) (bits_ordered n)

pub bits_first : (p : Instance) (count : ℕ) → var_count p + count ≤ 2 ^ 32 - 1 → AreBitsLeft p count 0 p []
bits_first p count room =
    let long : length (bits count) ≡ count = length-replicate count (pos 0, pos 1) in
    let same : count ≡ count - 0 = omega arith in
    record {
      left = subst (λ (k : ℕ). AreRangesLeft p (bits count) p (bits k)) same (ranges_all p (bits count) (bits_ordered count) (omega arith));
      variables_are = refl;
      count_is = omega arith;
    }

bits_step : (count i : ℕ) → i < count → bits (count - i) ≡ (pos 0, pos 1) ∷ bits (count - (i + 1))
bits_step count i l =
    let e : count - i ≡ suc (count - (i + 1)) = omega arith in
    ap (λ (k : ℕ). bits k) e

pub bits_room : (old p : Instance) (count i : ℕ) (variables : List ℕ) → i < count → AreBitsLeft old count i p variables → var_count p < 2 ^ 32 - 1
bits_room old p count i variables l far =
    ranges_room old p (bits count) (pos 0, pos 1) (bits (count - (i + 1)))
    (subst (λ (rs : List Range). AreRangesLeft old (bits count) p rs) (bits_step count i l) far.left)

pub range_more : (a n : ℕ) → range_with_len a (n + 1) ≡ range_with_len a n ++ (a + n) ∷ []
range_more a zero = let e : a ≡ a + 0 = omega arith in ap (λ (k : ℕ). k ∷ []) e
range_more a (suc n) =
    let e : suc n + 1 ≡ suc (n + 1) = omega arith in
    let f : a + 1 + n ≡ a + suc n = omega arith in
    ap (λ (k : ℕ). range_with_len a k) e
    ∙ ap (λ (ks : List ℕ). a ∷ ks) (range_more (a + 1) n)
    ∙ ap (λ (k : ℕ). a ∷ (range_with_len (a + 1) n ++ k ∷ [])) f

pub bits_more : (old p q : Instance) (count i x : ℕ) (variables more : List ℕ) → i < count → AreBitsLeft old count i p variables → q ≡ with_var p (pos 0) (pos 1) → x ≡ var_count p → more ≡ variables ++ x ∷ [] → AreBitsLeft old count (i + 1) q more
bits_more old p q count i x variables more l far e at added =
    let count_is = far.count_is in
    let counted = count_more p (pos 0) (pos 1) in
    let new_count : var_count q ≡ var_count p + 1 = ap (λ (n : Instance). var_count n) e ∙ counted in
    let x_is : x ≡ var_count old + i = at ∙ count_is in
    record {
      left = ranges_more old p q (bits count) (pos 0, pos 1) (bits (count - (i + 1)))
          (subst (λ (rs : List Range). AreRangesLeft old (bits count) p rs) (bits_step count i l) far.left) e;
      variables_are = added ∙ ap (λ (vs : List ℕ). vs ++ x ∷ []) far.variables_are
          ∙ ap (λ (k : ℕ). range_with_len (var_count old) i ++ k ∷ []) x_is ∙ sym (range_more (var_count old) i);
      count_is = omega arith;
    }

pub bits_end : (old p : Instance) (count i : ℕ) (variables : List ℕ) → count ≤ i → AreBitsLeft old count i p variables → p ≡ with_ranges old (bits count)
bits_end old p count i variables l far =
    let none : count - i ≡ 0 = omega arith in
    ranges_end old p (bits count) (subst (λ (k : ℕ). AreRangesLeft old (bits count) p (bits k)) none far.left)

-- ---- the variables that are answered

pub answered_more : (first i x : ℕ) (variables more : List ℕ) → variables ≡ range_with_len first i → x ≡ first + i → more ≡ variables ++ x ∷ [] → more ≡ range_with_len first (i + 1)
answered_more first i x variables more are at added =
    added ∙ ap (λ (vs : List ℕ). vs ++ x ∷ []) are ∙ ap (λ (k : ℕ). range_with_len first i ++ k ∷ []) at ∙ sym (range_more first i)
