-- A sum over a row's terms, one term at a time, stays within the row's measure.
use Rattle.std.proofs.Common.{◌≡◌, ℕ, ◌+◌, ◌*◌, ◌<◌, ◌≤◌, List, ◌∷◌, length, get_or, drop, max, sym, ◌∙◌, arith, add-one, drop-cons}
use Rattle.std.specs.Prelude.{ℤ, ◌+ℤ◌, ◌*ℤ◌, ◌≤ℤ◌, unsigned_abs}
use Rattle.std.proofs.lemmas.Int.{ints}
use Rattle.std.proofs.Math.Nat.{mul-le-mul_left}
use Rattle.cgm_atom.specs.declared.constraints.Var.{Var}
use Rattle.cgm_atom.specs.Atoms.{activity}
use Rattle.cgm_atom.specs.Bounds.{Bounds, value_of}
use Rattle.cgm_atom.specs.Limits.{AreTermsOf, greatest_size, measure}

-- what lies between two numbers is no larger than the larger of them
size-between : (l v u : ℤ) → l ≤ℤ v → v ≤ℤ u → unsigned_abs v ≤ max (unsigned_abs l) (unsigned_abs u)
size-between l v u h k = grind (arith, ints)

pub term_size : (c l v u : ℤ) → l ≤ℤ v → v ≤ℤ u → unsigned_abs c * unsigned_abs v ≤ unsigned_abs c * max (unsigned_abs l) (unsigned_abs u)
term_size c l v u h k = mul-le-mul_left (unsigned_abs c) (size-between l v u h k)

sum-first : (s t rest : ℤ) → s +ℤ (t +ℤ rest) ≡ (s +ℤ t) +ℤ rest
sum-first s t rest = omega (arith, ints)

size-sum : (s t : ℤ) → unsigned_abs (s +ℤ t) ≤ unsigned_abs s + unsigned_abs t
size-sum s t = grind (arith, ints)

abbrev pub IsSumOf : List ℤ → Bounds → ℕ → List (ℤ × Var) → List (ℤ × Var) → ℤ → Type 0
IsSumOf values b count terms rest sum =
    (sum +ℤ activity values rest ≡ activity values terms)
    × (unsigned_abs sum + measure b rest ≤ measure b terms)
    × AreTermsOf count rest

sum_of_more : (values : List ℤ) (b : Bounds) (count : ℕ) (terms : List (ℤ × Var)) (t : ℤ × Var) (rest : List (ℤ × Var)) (sum term : ℤ) → term ≡ t.0 *ℤ value_of values t.1.0 → unsigned_abs term ≤ unsigned_abs t.0 * greatest_size b t.1.0 → IsSumOf values b count terms (t ∷ rest) sum → IsSumOf values b count terms rest (sum +ℤ term)
sum_of_more values b count terms t rest sum term e size now =
    let total : sum +ℤ (term +ℤ activity values rest) ≡ activity values terms = rw e now.0 in
    let add = size-sum sum term in
    (sym (sum-first sum term (activity values rest)) ∙ total, omega (arith, add, size, now.1), now.2.3)

-- the sum of the first i terms is `sum`, and the rest of the measure is left for the others
abbrev pub IsSumBefore : List ℤ → Bounds → ℕ → List (ℤ × Var) → ℕ → ℤ → Type 0
IsSumBefore values b count terms i sum =
    IsSumOf values b count terms (drop i terms) sum

pub IsSumBefore-more : (values : List ℤ) (b : Bounds) (count : ℕ) (terms : List (ℤ × Var)) (i : ℕ) (d : ℤ × Var) (sum term : ℤ) → i < length terms → term ≡ (get_or terms i d).0 *ℤ value_of values (get_or terms i d).1.0 → unsigned_abs term ≤ unsigned_abs (get_or terms i d).0 * greatest_size b (get_or terms i d).1.0 → IsSumBefore values b count terms i sum → IsSumBefore values b count terms (i + 1) (sum +ℤ term)
IsSumBefore-more values b count terms i d sum term h e size before =
    let here : drop i terms ≡ get_or terms i d ∷ drop (i + 1) terms = rw (add-one) (drop-cons terms i d h) in
    let now : IsSumOf values b count terms (get_or terms i d ∷ drop (i + 1) terms) sum = rw here at before in
    sum_of_more values b count terms (get_or terms i d) (drop (i + 1) terms) sum term e size now
