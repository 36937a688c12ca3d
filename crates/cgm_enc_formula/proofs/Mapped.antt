-- One more element of a list that is made by a function, in a loop over the elements, and the end of the loop.
use Rattle.std.proofs.Common.{◌≡◌, ℕ, ◌+◌, ◌<◌, ◌≤◌, List, [], ◌∷◌, ◌++◌, length, get_or, map, take, drop, sym, ap, append_assoc, ◌∙◌}
use Rattle.std.proofs.lemmas.List.{append-nil, drop_all, drop_more, map_more, take_all}

module _ {X Y : Type 0} (f : X → Y) (xs : List X) (i : ℕ) (d : X) (y : Y) (old new : List Y) where
  -- the list has the elements so far
  pub mapped_by : i < length xs → old ≡ map f (take i xs) → y ≡ f (get_or xs i d) → new ≡ old ++ y ∷ [] → new ≡ map f (take (i + 1) xs)
  mapped_by h so is pushed =
      pushed ∙ ap (λ (z : Y). old ++ z ∷ []) is ∙ ap (λ (ys : List Y). ys ++ f (get_or xs i d) ∷ []) so ∙ sym (map_more f xs i d h)

  -- the same where the list had others before the loop
  pub appended_by : (first : List Y) → i < length xs → old ≡ first ++ map f (take i xs) → y ≡ f (get_or xs i d) → new ≡ old ++ y ∷ [] → new ≡ first ++ map f (take (i + 1) xs)
  appended_by first h so is pushed =
      pushed ∙ ap (λ (z : Y). old ++ z ∷ []) is ∙ ap (λ (ys : List Y). ys ++ f (get_or xs i d) ∷ []) so
      ∙ append_assoc first (map f (take i xs)) (f (get_or xs i d) ∷ [])
      ∙ ap (λ (ys : List Y). first ++ ys) (sym (map_more f xs i d h))

  -- the list with the elements that are left comes to all
  pub rest_by : (all : List Y) → i < length xs → old ++ map f (drop i xs) ≡ all → y ≡ f (get_or xs i d) → new ≡ old ++ y ∷ [] → new ++ map f (drop (i + 1) xs) ≡ all
  rest_by all h so is pushed =
      ap (λ (ys : List Y). ys ++ map f (drop (i + 1) xs)) pushed
      ∙ append_assoc old (y ∷ []) (map f (drop (i + 1) xs))
      ∙ ap (λ (z : Y). old ++ z ∷ map f (drop (i + 1) xs)) is
      ∙ ap (λ (ys : List X). old ++ map f ys) (sym (drop_more xs i d h))
      ∙ so

-- at the end of the loop these are all
module _ {X Y : Type 0} (f : X → Y) (xs : List X) (i : ℕ) (made : List Y) where
  pub mapped_all : length xs ≤ i → made ≡ map f (take i xs) → made ≡ map f xs
  mapped_all end so = so ∙ ap (λ (ys : List X). map f ys) (take_all i xs end)

  pub appended_all : (first : List Y) → length xs ≤ i → made ≡ first ++ map f (take i xs) → made ≡ first ++ map f xs
  appended_all first end so = so ∙ ap (λ (ys : List X). first ++ map f ys) (take_all i xs end)

  pub rest_all : (all : List Y) → length xs ≤ i → made ++ map f (drop i xs) ≡ all → made ≡ all
  rest_all all end so =
      sym (append-nil made) ∙ ap (λ (ys : List X). made ++ map f ys) (sym (drop_all i xs end)) ∙ so

-- the same where the elements that are left give anything
pub all_done : {X Y : Type 0} (g : List X → List Y) (xs : List X) (i : ℕ) (made whole : List Y) → g [] ≡ [] → length xs ≤ i → made ++ g (drop i xs) ≡ whole → made ≡ whole
all_done {X} {Y} g xs i made whole none end so =
    sym (append-nil made)
    ∙ ap (λ (l : List Y). made ++ l) (sym none)
    ∙ ap (λ (ys : List X). made ++ g ys) (sym (drop_all i xs end))
    ∙ so
