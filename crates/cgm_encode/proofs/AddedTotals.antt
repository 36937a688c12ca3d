-- Numbers added up over lists: maps, filters, counts.
use Rattle.std.proofs.Common.{◌≡◌, ℕ, ◌+◌, Bool, true, false, cond, List, [], ◌∷◌, ◌++◌, map, refl, ap, ◌∙◌, arith}
use Rattle.std.specs.Prelude.{ℤ, pos, neg_ℤ, ◌+ℤ◌, count_by, filter}
use Rattle.std.specs.List.{All}
use Rattle.std.proofs.lemmas.Int.{ints}
use Rattle.std.proofs.lemmas.List.Elements.{All-head, All-tail}
use Rattle.std.proofs.lemmas.List.Sums.{sum_by-cons}
use Rattle.cgm_atom.specs.Literals.{bit}
use Rattle.cgm_model.specs.Sums.{total_by}

pub total_map : {X Y : Type 0} (f : X → Y) (g : Y → ℤ) (xs : List X) → total_by g (map f xs) ≡ total_by (λ x. g (f x)) xs
total_map f g [] = refl
total_map f g (x ∷ xs) = ap (λ (z : ℤ). g (f x) +ℤ z) (total_map f g xs)

grouped : (x y z w : ℤ) → y ≡ z +ℤ w → x +ℤ y ≡ (x +ℤ z) +ℤ w
grouped x y z w h = omega (arith, ints)

nothing_first : (x : ℤ) → x ≡ pos 0 +ℤ x
nothing_first x = omega (arith, ints)

pub total_append : {X : Type 0} (g : X → ℤ) (xs ys : List X) → total_by g (xs ++ ys) ≡ total_by g xs +ℤ total_by g ys
total_append g [] ys = nothing_first (total_by g ys)
total_append g (x ∷ xs) ys = grouped (g x) (total_by g (xs ++ ys)) (total_by g xs) (total_by g ys) (total_append g xs ys)

pub total_same : {X : Type 0} (f g : X → ℤ) (xs : List X) → All (λ x. f x ≡ g x) xs → total_by f xs ≡ total_by g xs
total_same f g [] h = refl
total_same f g (x ∷ xs) h =
    ap (λ (z : ℤ). z +ℤ total_by f xs) (All-head (λ y. f y ≡ g y) x xs h)
    ∙ ap (λ (z : ℤ). g x +ℤ z) (total_same f g xs (All-tail (λ y. f y ≡ g y) x xs h))

both : (x y z w s : ℤ) → y +ℤ w ≡ s → (x +ℤ y) +ℤ (z +ℤ w) ≡ (x +ℤ z) +ℤ s
both x y z w s h = omega (arith, ints)

pub total_both : {X : Type 0} (f g : X → ℤ) (xs : List X) → total_by f xs +ℤ total_by g xs ≡ total_by (λ x. f x +ℤ g x) xs
total_both f g [] = refl
total_both f g (x ∷ xs) = both (f x) (total_by f xs) (g x) (total_by g xs) (total_by (λ y. f y +ℤ g y) xs) (total_both f g xs)

opposite_more : (x y z : ℤ) → y ≡ neg_ℤ z → neg_ℤ x +ℤ y ≡ neg_ℤ (x +ℤ z)
opposite_more x y z h = omega (arith, ints)

pub total_opposite : {X : Type 0} (f : X → ℤ) (xs : List X) → total_by (λ x. neg_ℤ (f x)) xs ≡ neg_ℤ (total_by f xs)
total_opposite f [] = refl
total_opposite f (x ∷ xs) = opposite_more (f x) (total_by (λ y. neg_ℤ (f y)) xs) (total_by f xs) (total_opposite f xs)

filter_by : {X : Type 0} (g : X → ℤ) (x : X) (rest : List X) (z : ℤ) (t : Bool) → total_by g rest ≡ z → total_by g (cond t (x ∷ rest) rest) ≡ cond t (g x) (pos 0) +ℤ z
filter_by g x rest z true h = ap (λ (y : ℤ). g x +ℤ y) h
filter_by g x rest z false h = h ∙ nothing_first z

pub total_filter : {X : Type 0} (p : X → Bool) (g : X → ℤ) (xs : List X) → total_by g (filter p xs) ≡ total_by (λ x. cond (p x) (g x) (pos 0)) xs
total_filter p g [] = refl
total_filter p g (x ∷ xs) = filter_by g x (filter p xs) (total_by (λ y. cond (p y) (g y) (pos 0)) xs) (p x) (total_filter p g xs)

count_more : (t : Bool) (n more : ℕ) (z : ℤ) → z ≡ pos n → more ≡ cond t 1 0 + n → bit t +ℤ z ≡ pos more
count_more true n more z h e = omega (arith, ints)
count_more false n more z h e = omega (arith, ints)

pub total_count : {X : Type 0} (p : X → Bool) (xs : List X) → total_by (λ x. bit (p x)) xs ≡ pos (count_by p xs)
total_count p [] = refl
total_count p (x ∷ xs) = count_more (p x) (count_by p xs) (count_by p (x ∷ xs)) (total_by (λ y. bit (p y)) xs) (total_count p xs) (sum_by-cons (λ y. cond (p y) 1 0) x xs)
