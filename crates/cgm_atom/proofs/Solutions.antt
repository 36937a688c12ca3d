-- Nothing is violated exactly where values are a solution.
use Rattle.std.proofs.Common.{◌≡◌, ℕ, zero, suc, ◌+◌, ◌<◌, ◌≤◌, ◌⊎◌, ◌↔◌, Bool, true, false, not, cond, ◌&&◌, List, [], ◌∷◌, length, refl, ap, sym, ◌∙◌, subst, arith, inl, inr, zero-add}
use Rattle.std.specs.Prelude.{ℤ, pos, ◌≤ℤ◌, int_le, ◌==◌, if◌then◌else◌, is_some, IsTrue, IsNone, Option, Some, None}
use Rattle.std.specs.List.{All, position_from}
use Rattle.std.specs.Option.{option_map}
use Rattle.std.proofs.lemmas.Bool.{cases_lt, eqb-true, eq-eqb}
use Rattle.std.proofs.lemmas.Int.{ints}
use Rattle.std.proofs.lemmas.List.{get_or_past}
use Rattle.cgm_atom.specs.declared.checks.Violated.{Violated}
use Rattle.cgm_atom.specs.declared.checks.Violated.TheVariants as violated
use Rattle.cgm_atom.specs.Atoms.{clause_true, row_true}
use Rattle.cgm_atom.specs.Bounds.{Bounds, AreProperBounds, IsWithin, lower_of, upper_of, value_of}
use Rattle.cgm_atom.specs.Instance.{Instance, IsSolution, fault_unless, first_some, first_violation, outside_from, var_count}

-- ---- the first of the faults

first_some-none : {X : Type 0} (fault : Option X) (others : List (Option X)) → first_some (fault ∷ others) ≡ None → (fault ≡ None) × (first_some others ≡ None)
first_some-none None others h = (refl, h)
first_some-none (Some x) others h = absurd (cc)

fault_unless-none : {X : Type 0} (t : Bool) (fault : X) → fault_unless t fault ≡ None → t ≡ true
fault_unless-none true fault h = refl
fault_unless-none false fault h = absurd (cc)

option_map-none : {X Y : Type 0} (f : X → Y) (o : Option X) → option_map f o ≡ None → o ≡ None
option_map-none f None h = refl
option_map-none f (Some x) h = absurd (cc)

-- ---- positions

cond-none : (t : Bool) (i : ℕ) (rest : Option ℕ) → cond (not t) (Some i) rest ≡ None → (t ≡ true) × (rest ≡ None)
cond-none true i rest h = (refl, h)
cond-none false i rest h = absurd (cc)

position_from-none : {X : Type 0} (test : X → Bool) (i : ℕ) (xs : List X) → position_from (λ x. not (test x)) i xs ≡ None → All (λ x. IsTrue (test x)) xs
position_from-none test i [] h k d within = absurd (omega arith)
position_from-none test i (x ∷ xs) h zero d within =
    (cond-none (test x) i (position_from (λ y. not (test y)) (i + 1) xs) h).0
position_from-none test i (x ∷ xs) h (suc k) d within =
    position_from-none test (i + 1) xs (cond-none (test x) i (position_from (λ y. not (test y)) (i + 1) xs) h).1 k d (omega arith)

pub none-position_from : {X : Type 0} (test : X → Bool) (i : ℕ) (xs : List X) → All (λ x. IsTrue (test x)) xs → position_from (λ x. not (test x)) i xs ≡ None
none-position_from test i [] h = refl
none-position_from test i (x ∷ xs) h =
    rw (h zero x (omega arith)) (none-position_from test (i + 1) xs (λ k d within. h (suc k) d (omega arith)))

-- ---- values within bounds

both-true : (s t : Bool) → (s && t) ≡ true → (s ≡ true) × (t ≡ true)
both-true true true h = (refl, refl)
both-true true false h = absurd (cc)
both-true false t h = absurd (cc)

int_le-true : (x y : ℤ) → int_le x y ≡ true → x ≤ℤ y
int_le-true x y h = grind (arith, ints)

true-int_le : (x y : ℤ) → x ≤ℤ y → int_le x y ≡ true
true-int_le x y h = grind (arith, ints)

if-none : (t : Bool) (rest : Option ℕ) (x : ℕ) → (if t then rest else Some x) ≡ None → (t ≡ true) × (rest ≡ None)
if-none true rest x h = (refl, h)
if-none false rest x h = absurd (cc)

abbrev IsBetween : Bounds → ℕ → ℤ → Type 0
IsBetween b x v = (lower_of b x ≤ℤ v) × (v ≤ℤ upper_of b x)

outside_from-none : (b : Bounds) (x : ℕ) (values : List ℤ) → outside_from b x values ≡ None → (i : ℕ) → i < length values → IsBetween b (x + i) (value_of values i)
outside_from-none b x [] h i within = absurd (omega arith)
outside_from-none b x (v ∷ values) h zero within =
    let split = if-none (int_le (lower_of b x) v && int_le v (upper_of b x)) (outside_from b (x + 1) values) x h in
    let tests = both-true (int_le (lower_of b x) v) (int_le v (upper_of b x)) split.0 in
    let here : x + zero ≡ x = omega arith in
    rw here (int_le-true (lower_of b x) v tests.0, int_le-true v (upper_of b x) tests.1)
outside_from-none b x (v ∷ values) h (suc i) within =
    let split = if-none (int_le (lower_of b x) v && int_le v (upper_of b x)) (outside_from b (x + 1) values) x h in
    let there : x + suc i ≡ x + 1 + i = omega arith in
    rw there (outside_from-none b (x + 1) values split.1 i (omega arith))

none-outside_from : (b : Bounds) (x : ℕ) (values : List ℤ) → ((i : ℕ) → IsBetween b (x + i) (value_of values i)) → outside_from b x values ≡ None
none-outside_from b x [] h = refl
none-outside_from b x (v ∷ values) h =
    let here : x + zero ≡ x = omega arith in
    let between : IsBetween b x v = subst (λ (y : ℕ). IsBetween b y v) here (h zero) in
    let more : (i : ℕ) → IsBetween b (x + 1 + i) (value_of values i) = λ i. let there : x + suc i ≡ x + 1 + i = omega arith in subst (λ (y : ℕ). IsBetween b y (value_of values i)) there (h (suc i)) in
    rw (true-int_le (lower_of b x) v between.0, true-int_le v (upper_of b x) between.1) (none-outside_from b (x + 1) values more)

le_refl : (x : ℤ) → x ≤ℤ x
le_refl x = omega (arith, ints)

within-past : (b : Bounds) (values : List ℤ) (x : ℕ) → AreProperBounds b → length values ≡ length b.lower → length values ≤ x → IsBetween b x (value_of values x)
within-past b values x proper count past =
    let same : length b.upper ≡ length b.lower = proper.same_count in
    rw (get_or_past values x (pos 0) past, get_or_past b.lower x (pos 0) (omega arith), get_or_past b.upper x (pos 0) (omega arith))
    (le_refl (pos 0), le_refl (pos 0))

within-at : (b : Bounds) (values : List ℤ) (x : ℕ) → AreProperBounds b → length values ≡ length b.lower → outside_from b 0 values ≡ None → (x < length values) ⊎ (length values ≤ x) → IsBetween b x (value_of values x)
within-at b values x proper count h (inl lt) = rw (zero-add x) at (outside_from-none b 0 values h x lt)
within-at b values x proper count h (inr past) = within-past b values x proper count past

pub within-outside_from : (b : Bounds) (values : List ℤ) → AreProperBounds b → length values ≡ length b.lower → outside_from b 0 values ≡ None → IsWithin b values
within-outside_from b values proper count h = λ x. within-at b values x proper count h (cases_lt x (length values))

pub outside_from-within : (b : Bounds) (values : List ℤ) → IsWithin b values → outside_from b 0 values ≡ None
outside_from-within b values h = none-outside_from b 0 values (λ i. rw (zero-add i) (h i))

-- ---- solutions

pub solution-none : (p : Instance) (values : List ℤ) → AreProperBounds p.bounds → first_violation p values ≡ None → IsSolution p values
solution-none p values proper h =
    let count = first_some-none (fault_unless (length values == var_count p) violated.Count) _ h in
    let bound = first_some-none (option_map violated.Bound (outside_from p.bounds 0 values)) _ count.1 in
    let clause = first_some-none (option_map violated.Clause (position_from (λ c. not (clause_true values c)) 0 p.clauses)) _ bound.1 in
    let row = first_some-none (option_map violated.Row (position_from (λ r. not (row_true values r)) 0 p.rows)) _ clause.1 in
    let same : length values ≡ length p.bounds.lower = eqb-true (length values) (var_count p) (fault_unless-none (length values == var_count p) violated.Count count.0) in
    record {
      count = same;
      within = within-outside_from p.bounds values proper same (option_map-none violated.Bound (outside_from p.bounds 0 values) bound.0);
      clauses = position_from-none (clause_true values) 0 p.clauses (option_map-none violated.Clause _ clause.0);
      rows = position_from-none (row_true values) 0 p.rows (option_map-none violated.Row _ row.0);
    }

pub none-solution : (p : Instance) (values : List ℤ) → IsSolution p values → first_violation p values ≡ None
none-solution p values h =
    let count : (length values == var_count p) ≡ true = eq-eqb (length values) (var_count p) h.count in
    rw (count, outside_from-within p.bounds values h.within, none-position_from (clause_true values) 0 p.clauses h.clauses, none-position_from (row_true values) 0 p.rows h.rows) refl

is_some-false : {X : Type 0} (o : Option X) → is_some o ≡ false → o ≡ None
is_some-false None h = refl
is_some-false (Some x) h = absurd (cc)

pub none_exactly : (p : Instance) (values : List ℤ) (found : Option Violated) → AreProperBounds p.bounds → found ≡ first_violation p values → IsNone found ↔ IsSolution p values
none_exactly p values found proper first =
    (λ none. solution-none p values proper (sym first ∙ is_some-false found none), λ solution. ap is_some (first ∙ none-solution p values solution))

pub within_exactly : (b : Bounds) (values : List ℤ) (found : Option ℕ) → AreProperBounds b → length values ≡ length b.lower → found ≡ outside_from b 0 values → IsNone found ↔ IsWithin b values
within_exactly b values found proper count first =
    (λ none. within-outside_from b values proper count (sym first ∙ is_some-false found none), λ within. ap is_some (first ∙ outside_from-within b values within))
