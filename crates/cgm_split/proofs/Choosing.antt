-- What the first variable that isn't fixed says of the box.
use Rattle.std.proofs.Common.{◌≡◌, ℕ, ◌<◌, false, Bool, List, [], ◌∷◌, ◌++◌, length, refl, sym, ◌∙◌, subst, arith}
use Rattle.std.specs.Prelude.{find, Option, Some, None, IsNone, IsTrue, IfSome, int_lt, ◌≤ℤ◌, slice_index_or}
use Rattle.std.specs.List.{All}
use Rattle.std.proofs.lemmas.Int.{ints}
use Rattle.std.proofs.lemmas.List.Elements.{All-append, All-from_recursion, recursion_from_All}
use Rattle.std.proofs.lemmas.List.FromFn.{get_or-map-range_with_len, length-map-range_with_len}
use Rattle.std.proofs.lemmas.List.Sorted.{All-permutation, IsPermutation-sym, length_permutation}
use Rattle.cgm_atom.specs.declared.constraints.Var.{Var}
use Rattle.cgm_atom.specs.Bounds.{Bounds, AreProperBounds, lower_of, upper_of}
use Rattle.cgm_atom.proofs.SignedSteps.{lt_is_false}
use Rattle.cgm_split.specs.Drawing.{IsEachOnce, by_number}
use Rattle.cgm_split.specs.Halving.{IsFixed, IsPoint, is_unfixed}
use Rattle.cgm_split.specs.Preferring.{IsByNumber, IsPreference, Preference, preferred}
use Rattle.cgm_split.proofs.Finding.{fails_of_none, found_after, found_keeps, found_passes, lowest_by_number, none_of_fails}

-- ---- lists in which each variable stands once

abbrev make : ℕ → Var
make x = record { 0 = x }

count_by_number : (count : ℕ) → length (by_number count) ≡ count
count_by_number count = length-map-range_with_len make 0 count

number_at : (count k : ℕ) (d : Var) → k < count → slice_index_or (by_number count) k d ≡ record { 0 = k }
number_at count k d within = get_or-map-range_with_len make 0 count k k d within (omega arith)

pub count_each_once : (count : ℕ) (vs : List Var) → IsEachOnce count vs → length vs ≡ count
count_each_once count vs each = length_permutation (by_number count) vs each ∙ count_by_number count

known_by_number : (count : ℕ) → All (λ v. v.0 < count) (by_number count)
known_by_number count k d within =
    let inside : k < count = subst (λ n. k < n) (count_by_number count) within in
    rw (number_at count k d inside) inside

pub known_each_once : (count : ℕ) (vs : List Var) → IsEachOnce count vs → All (λ v. v.0 < count) vs
known_each_once count vs each = All-permutation (λ v. v.0 < count) (by_number count) vs each (known_by_number count)

-- what holds of each variable in such a list holds of each number
all_each_once : (P : Var → Type 0) (count : ℕ) (vs : List Var) → IsEachOnce count vs → All P vs → (x : ℕ) → x < count → P (record { 0 = x })
all_each_once P count vs each all x within =
    let there : x < length (by_number count) = subst (λ n. x < n) (sym (count_by_number count)) within in
    subst P (number_at count x (record { 0 = x }) within) (All-permutation P vs (by_number count) (IsPermutation-sym (by_number count) vs each) all x (record { 0 = x }) there)

-- ---- fixed variables

fixed_of_fails : (b : Bounds) → AreProperBounds b → (x : ℕ) → int_lt (lower_of b x) (upper_of b x) ≡ false → IsFixed b x
fixed_of_fails b proper x h = let order : lower_of b x ≤ℤ upper_of b x = proper.ordered x in omega (arith, ints)

pub fails_of_fixed : (b : Bounds) (x : ℕ) → IsFixed b x → int_lt (lower_of b x) (upper_of b x) ≡ false
fails_of_fixed b x h = lt_is_false (lower_of b x) (upper_of b x) (omega (arith, ints))

-- variables of the box fail where each is fixed
fails_of_point : (b : Bounds) (vs : List Var) → IsPoint b → All (λ v. v.0 < length b.lower) vs → All (λ v. is_unfixed b v ≡ false) vs
fails_of_point b vs point known k d within = fails_of_fixed b (slice_index_or vs k d).0 (point (slice_index_or vs k d).0 (known k d within))

-- a box of so many variables, each of which fails, holds one value of each
pub point_of_fails : (b : Bounds) (vs : List Var) → (0 < length vs → AreProperBounds b) → IsEachOnce (length b.lower) vs → All (λ v. is_unfixed b v ≡ false) vs → IsPoint b
point_of_fails b vs proper each fails x within =
    let long : length vs ≡ length b.lower = count_each_once (length b.lower) vs each in
    fixed_of_fails b (proper (omega (arith, long))) x (all_each_once (λ v. is_unfixed b v ≡ false) (length b.lower) vs each fails x within)

none_of_test : (found : Option Var) → IsNone found → found ≡ None
none_of_test None h = refl
none_of_test (Some v) h = absurd (cc)

test_of_none : (found : Option Var) → found ≡ None → IsNone found
test_of_none None h = refl
test_of_none (Some v) h = absurd (cc)

-- ---- the first that isn't fixed

-- what a choice rests on: the order's lists, a box of as many variables, and its order where it has any
pub record IsChoice (b : Bounds) (o : Preference) (found : Option Var) : Type 0 where
  pub valid : IsPreference o
  pub count : length b.lower ≡ length o.variables
  pub proper : 0 < length o.variables → AreProperBounds b
  pub first : found ≡ preferred b o

last_of_none : (p : Var → Bool) (us vs : List Var) → find p (us ++ vs) ≡ None → find p vs ≡ None
last_of_none p [] vs h = h
last_of_none p (u ∷ us) vs h = last_of_none p us vs (fails_of_none_tail p u (us ++ vs) h)
  where
    fails_of_none_tail : (p : Var → Bool) (u : Var) (vs : List Var) → find p (u ∷ vs) ≡ None → find p vs ≡ None
    fails_of_none_tail p u vs h = none_of_fails p vs (fails_of_none p (u ∷ vs) h).1

known_both : (b : Bounds) (o : Preference) (found : Option Var) → IsChoice b o found → All (λ v. v.0 < length b.lower) (o.objectives ++ o.variables)
known_both b o found c =
    subst (λ n. All (λ v. v.0 < n) (o.objectives ++ o.variables)) (sym c.count)
    (All-append (λ v. v.0 < length o.variables) o.objectives o.variables c.valid.known (known_each_once (length o.variables) o.variables c.valid.each_once))

-- none is found only where each variable is fixed
point_of_none : (b : Bounds) (o : Preference) (found : Option Var) → IsChoice b o found → IsNone found → IsPoint b
point_of_none b o found c none =
    let last : find (is_unfixed b) o.variables ≡ None = last_of_none (is_unfixed b) o.objectives o.variables (sym c.first ∙ none_of_test found none) in
    let fails : All (λ v. is_unfixed b v ≡ false) o.variables = All-from_recursion (λ v. is_unfixed b v ≡ false) o.variables (fails_of_none (is_unfixed b) o.variables last) in
    point_of_fails b o.variables c.proper (subst (λ n. IsEachOnce n o.variables) (sym c.count) c.valid.each_once) fails

none_of_point : (b : Bounds) (o : Preference) (found : Option Var) → IsChoice b o found → IsPoint b → IsNone found
none_of_point b o found c point =
    let fails : All (λ v. is_unfixed b v ≡ false) (o.objectives ++ o.variables) = fails_of_point b (o.objectives ++ o.variables) point (known_both b o found c) in
    test_of_none found (c.first ∙ none_of_fails (is_unfixed b) (o.objectives ++ o.variables) (recursion_from_All (λ v. is_unfixed b v ≡ false) (o.objectives ++ o.variables) fails))

pub none_exactly : (b : Bounds) (o : Preference) (found : Option Var) → IsChoice b o found → (IsNone found → IsPoint b) × (IsPoint b → IsNone found)
none_exactly b o found c = (point_of_none b o found c, none_of_point b o found c)

pub choice_known : (b : Bounds) (o : Preference) (found : Option Var) → IsChoice b o found → IfSome found (λ v. v.0 < length b.lower)
choice_known b o None c = tt
choice_known b o (Some v) c =
    found_keeps (λ v. v.0 < length b.lower) (is_unfixed b) (o.objectives ++ o.variables) v (recursion_from_All (λ v. v.0 < length b.lower) (o.objectives ++ o.variables) (known_both b o (Some v) c)) (sym c.first)

pub choice_unfixed : (b : Bounds) (o : Preference) (found : Option Var) → IsChoice b o found → IfSome found (λ v. IsTrue (is_unfixed b v))
choice_unfixed b o None c = tt
choice_unfixed b o (Some v) c = found_passes (is_unfixed b) (o.objectives ++ o.variables) v (sym c.first)

-- by number, where the objectives are fixed, each of a lower number than the choice is fixed
pub choice_lowest : (b : Bounds) (o : Preference) (found : Option Var) → IsChoice b o found → IsByNumber o → All (λ u. IsFixed b u.0) o.objectives → IfSome found (λ v. (x : ℕ) → x < v.0 → IsFixed b x)
choice_lowest b o None c numbered fixed = tt
choice_lowest b o (Some v) c numbered fixed =
    λ x low.
    let inside : v.0 < length b.lower = choice_known b o (Some v) c in
    let fails : All (λ u. is_unfixed b u ≡ false) o.objectives = λ k d within. fails_of_fixed b (slice_index_or o.objectives k d).0 (fixed k d within) in
    let none : find (is_unfixed b) o.objectives ≡ None = none_of_fails (is_unfixed b) o.objectives (recursion_from_All (λ u. is_unfixed b u ≡ false) o.objectives fails) in
    let last : find (is_unfixed b) o.variables ≡ Some v = sym (found_after (is_unfixed b) o.objectives o.variables none) ∙ sym c.first in
    fixed_of_fails b (c.proper (omega (arith, c.count))) x (lowest_by_number (is_unfixed b) (length o.variables) v (subst (λ vs. find (is_unfixed b) vs ≡ Some v) numbered last) x low)
