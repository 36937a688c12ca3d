-- An item that stands twice in a list, met when it is compared with those before it.
use Rattle.std.proofs.Common.{◌≡◌, ℕ, ◌+◌, ◌<◌, ◌++◌, ◌||◌, not, Bool, true, false, List, [], ◌∷◌, length, get_or, take, drop, refl, sym, ◌∙◌, subst, ⊎_elim}
use Rattle.std.specs.List.{list_any}
use Rattle.std.proofs.lemmas.Bool.{false≢true, or_cases, or_parts, or_from, or_left, or_right, and_parts, and_from, and_left, and_right, not_from_true, not_from_false, not-true}
use Rattle.std.proofs.lemmas.List.{take_more, take-append-drop, drop_more}
use Rattle.std.proofs.lemmas.List.Folds.{list_any-append}
use Rattle.cgm_model.specs.Distinct.{are_distinct}

module _ {X : Type 0} (same : X → X → Bool) (swap : (x y : X) (b : Bool) → same x y ≡ b → same y x ≡ b) where
  any_in_middle : (x : X) (xs zs : List X) (at : X) → same at x ≡ true → list_any (λ y. same y x) (xs ++ at ∷ zs) ≡ true
  any_in_middle x [] zs at e = or_left (same at x) (list_any (λ y. same y x) zs) e
  any_in_middle x (k ∷ xs) zs at e =
      or_right (same k x) (list_any (λ y. same y x) (xs ++ at ∷ zs)) (any_in_middle x xs zs at e)

  -- the item stands before
  repeated : (xs zs : List X) (x : X) → list_any (λ y. same y x) xs ≡ true → are_distinct same (xs ++ x ∷ zs) ≡ false
  repeated [] zs x e = absurd (false≢true e)
  repeated (k ∷ xs) zs x e =
      ⊎_elim
      (λ is. and_left (not (list_any (λ y. same y k) (xs ++ x ∷ zs))) (are_distinct same (xs ++ x ∷ zs)) (not_from_true (list_any (λ y. same y k) (xs ++ x ∷ zs)) (any_in_middle k xs zs x (swap k x true is))))
      (λ later. and_right (not (list_any (λ y. same y k) (xs ++ x ∷ zs))) (are_distinct same (xs ++ x ∷ zs)) (repeated xs zs x later))
      (or_cases (same k x) (list_any (λ y. same y x) xs) e)

  unmet_by : (xs zs : List X) (x : X) (met : Bool) → list_any (λ y. same y x) xs ≡ met → are_distinct same (xs ++ x ∷ zs) ≡ true → not met ≡ true
  unmet_by xs zs x true e d = absurd (false≢true (sym (repeated xs zs x e) ∙ d))
  unmet_by xs zs x false e d = refl

  -- none of the items before it is the same
  pub unmet : (xs zs : List X) (x : X) → are_distinct same (xs ++ x ∷ zs) ≡ true → not (list_any (λ y. same y x) xs) ≡ true
  unmet xs zs x d = unmet_by xs zs x (list_any (λ y. same y x) xs) refl d

  pub distinct_push : (xs : List X) (x : X) → are_distinct same xs ≡ true → list_any (λ y. same y x) xs ≡ false → are_distinct same (xs ++ x ∷ []) ≡ true
  distinct_push [] x d e = refl
  distinct_push (k ∷ xs) x d e =
      let parts = and_parts (not (list_any (λ y. same y k) xs)) (are_distinct same xs) d in
      let apart = or_parts (same k x) (list_any (λ y. same y x) xs) e in
      let none : list_any (λ y. same y k) (xs ++ x ∷ []) ≡ false = list_any-append (λ y. same y k) xs (x ∷ []) ∙ or_from (list_any (λ y. same y k) xs) ((same x k) || false) (not-true (list_any (λ y. same y k) xs) parts.0) (or_from (same x k) false (swap k x false apart.0) refl) in
      and_from (not (list_any (λ y. same y k) (xs ++ x ∷ []))) (are_distinct same (xs ++ x ∷ [])) (not_from_false (list_any (λ y. same y k) (xs ++ x ∷ [])) none) (distinct_push xs x parts.1 apart.1)

  -- a step of the loop over the places
  pub distinct_more : (xs : List X) (i : ℕ) (d : X) → i < length xs → are_distinct same (take i xs) ≡ true → list_any (λ y. same y (get_or xs i d)) (take i xs) ≡ false → are_distinct same (take (i + 1) xs) ≡ true
  distinct_more xs i d l h e = rw (take_more xs i d l) (distinct_push (take i xs) (get_or xs i d) h e)

  pub distinct_fails : (xs : List X) (i : ℕ) (d : X) → i < length xs → list_any (λ y. same y (get_or xs i d)) (take i xs) ≡ true → are_distinct same xs ≡ false
  distinct_fails xs i d l e =
      let P : List X → Type 0 = λ ys. are_distinct same ys ≡ false in
      let Q : List X → Type 0 = λ ys. are_distinct same (take i xs ++ ys) ≡ false in
      subst P (take-append-drop i xs) (subst Q (sym (drop_more xs i d l)) (repeated (take i xs) (drop (i + 1) xs) (get_or xs i d) e))
