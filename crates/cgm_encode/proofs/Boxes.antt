-- Values lie in a box of ranges exactly where each value lies in its range.
use Rattle.std.proofs.Common.{◌≡◌, ℕ, zero, suc, ◌+◌, ◌<◌, ◌≤◌, List, ◌∷◌, ◌++◌, replicate, refl, length, get_or, map, sym, ap, ◌∙◌, subst, arith, ⊎_elim}
use Rattle.std.specs.Prelude.{ℤ, pos, ◌≤ℤ◌}
use Rattle.std.proofs.lemmas.Bool.{cases_lt}
use Rattle.std.proofs.lemmas.Int.{ints}
use Rattle.std.proofs.lemmas.List.{get_or-map, get_or_past, length-map, map-append}
use Rattle.cgm_atom.specs.Bounds.{Bounds, IsWithin, lower_of, upper_of, value_of}
use Rattle.cgm_base.specs.Place.{EachFrom}
use Rattle.cgm_encode.specs.Problem.{bits, box_of_problem}
use Rattle.cgm_encode.specs.Totals.{Range}
use Rattle.cgm_encode.proofs.GroupPlaces.{each_at, each_of, moved}

-- ---- boxes joined

pub box_joined : (rs qs : List Range) → box_of_problem (rs ++ qs) ≡ record { lower = (box_of_problem rs).lower ++ map (λ r. r.0) qs; upper = (box_of_problem rs).upper ++ map (λ r. r.1) qs }
box_joined rs qs =
    let both : List ℤ → List ℤ → Bounds = λ lower upper. record { lower = lower; upper = upper } in
    ap (λ (lower : List ℤ). both lower (map (λ r. r.1) (rs ++ qs))) (map-append (λ (r : Range). r.0) rs qs)
    ∙ ap (λ (upper : List ℤ). both (map (λ r. r.0) rs ++ map (λ r. r.0) qs) upper) (map-append (λ (r : Range). r.1) rs qs)

map_same : (f : Range → ℤ) (n : ℕ) (r : Range) → map f (replicate n r) ≡ replicate n (f r)
map_same f zero r = refl
map_same f (suc n) r = ap (λ (zs : List ℤ). f r ∷ zs) (map_same f n r)

pub box_and_bits : (rs : List Range) (n : ℕ) → box_of_problem (rs ++ bits n) ≡ record { lower = (box_of_problem rs).lower ++ replicate n (pos 0); upper = (box_of_problem rs).upper ++ replicate n (pos 1) }
box_and_bits rs n =
    let both : List ℤ → List ℤ → Bounds = λ lower upper. record { lower = (box_of_problem rs).lower ++ lower; upper = (box_of_problem rs).upper ++ upper } in
    box_joined rs (bits n)
    ∙ ap (λ (lower : List ℤ). both lower (map (λ r. r.1) (bits n))) (map_same (λ r. r.0) n (pos 0, pos 1))
    ∙ ap (λ (upper : List ℤ). both (replicate n (pos 0)) upper) (map_same (λ r. r.1) n (pos 0, pos 1))

-- ---- values in a box

-- the value of variable x lies in the range
abbrev pub Lies : List ℤ → ℕ → Range → Type 0
Lies values x r = (r.0 ≤ℤ value_of values x) × (value_of values x ≤ℤ r.1)

pub lower_at : (rs : List Range) (x : ℕ) (d : Range) → x < length rs → lower_of (box_of_problem rs) x ≡ (get_or rs x d).0
lower_at rs x d l = get_or-map (λ (r : Range). r.0) rs x d (pos 0) l

pub upper_at : (rs : List Range) (x : ℕ) (d : Range) → x < length rs → upper_of (box_of_problem rs) x ≡ (get_or rs x d).1
upper_at rs x d l = get_or-map (λ (r : Range). r.1) rs x d (pos 0) l

pub lower_past : (rs : List Range) (x : ℕ) → length rs ≤ x → lower_of (box_of_problem rs) x ≡ pos 0
lower_past rs x l = let long = length-map rs (λ (r : Range). r.0) in get_or_past (map (λ (r : Range). r.0) rs) x (pos 0) (omega arith)

pub upper_past : (rs : List Range) (x : ℕ) → length rs ≤ x → upper_of (box_of_problem rs) x ≡ pos 0
upper_past rs x l = let long = length-map rs (λ (r : Range). r.1) in get_or_past (map (λ (r : Range). r.1) rs) x (pos 0) (omega arith)

pub each_lies : (values : List ℤ) (rs : List Range) → IsWithin (box_of_problem rs) values → EachFrom 0 (Lies values) rs
each_lies values rs within =
    each_of (Lies values) 0 rs
    (λ k d l.
    let v : ℤ = value_of values k in
    let here : Lies values k (get_or rs k d) = (
      subst (λ (z : ℤ). z ≤ℤ v) (lower_at rs k d l) (within k).0,
      subst (λ (z : ℤ). v ≤ℤ z) (upper_at rs k d l) (within k).1,
    ) in
    moved (λ n. Lies values n (get_or rs k d)) k (0 + k) (omega arith) here)

still : (l v u : ℤ) → l ≡ pos 0 → v ≡ pos 0 → u ≡ pos 0 → (l ≤ℤ v) × (v ≤ℤ u)
still l v u e f g = (omega (arith, ints), omega (arith, ints))

-- of the variables that the box has
pub lies_at : (values : List ℤ) (rs : List Range) → EachFrom 0 (Lies values) rs → (x : ℕ) → x < length rs → (lower_of (box_of_problem rs) x ≤ℤ value_of values x) × (value_of values x ≤ℤ upper_of (box_of_problem rs) x)
lies_at values rs each x l =
    let d : Range = (pos 0, pos 0) in
    let v : ℤ = value_of values x in
    let here : Lies values x (get_or rs x d) = moved (λ n. Lies values n (get_or rs x d)) (0 + x) x (omega arith) (each_at (Lies values) 0 rs x d each l) in (
      subst (λ (z : ℤ). z ≤ℤ v) (sym (lower_at rs x d l)) here.0,
      subst (λ (z : ℤ). v ≤ℤ z) (sym (upper_at rs x d l)) here.1,
    )

pub within_box : (values : List ℤ) (rs : List Range) → length values ≡ length rs → EachFrom 0 (Lies values) rs → IsWithin (box_of_problem rs) values
within_box values rs long each x =
    ⊎_elim
    (λ l. lies_at values rs each x l)
    (λ past. still (lower_of (box_of_problem rs) x) (value_of values x) (upper_of (box_of_problem rs) x) (lower_past rs x past) (get_or_past values x (pos 0) (omega arith)) (upper_past rs x past))
    (cases_lt x (length rs))
