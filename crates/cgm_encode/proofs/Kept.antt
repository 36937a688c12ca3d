-- What a loop keeps of the numbers below a place, and of the items of a list.
use Rattle.std.proofs.Common.{◌≡◌, ℕ, ◌+◌, ◌<◌, ◌≤◌, Bool, List, [], ◌∷◌, ◌++◌, length, get_or, take, sym, ap, ◌∙◌, arith}
use Rattle.std.specs.Prelude.{filter}
use Rattle.std.specs.List.{range_with_len}
use Rattle.std.proofs.lemmas.List.{take_more}
use Rattle.std.proofs.lemmas.List.Elements.{filter-append}
use Rattle.cgm_encode.proofs.AddedVariables.{range_more}

pub numbers_kept : (p : ℕ → Bool) (i : ℕ) (old new : List ℕ) → old ≡ filter p (range_with_len 0 i) → new ≡ old ++ filter p (i ∷ []) → new ≡ filter p (range_with_len 0 (i + 1))
numbers_kept p i old new are added =
    let at : i ≡ 0 + i = omega arith in
    added
    ∙ ap (λ (xs : List ℕ). xs ++ filter p (i ∷ [])) are
    ∙ ap (λ (k : ℕ). filter p (range_with_len 0 i) ++ filter p (k ∷ [])) at
    ∙ sym (filter-append p (range_with_len 0 i) ((0 + i) ∷ []))
    ∙ ap (λ (xs : List ℕ). filter p xs) (sym (range_more 0 i))

pub items_kept : (p : ℕ → Bool) (xs : List ℕ) (i d : ℕ) (old new : List ℕ) → i < length xs → old ≡ filter p (take i xs) → new ≡ old ++ filter p (get_or xs i d ∷ []) → new ≡ filter p (take (i + 1) xs)
items_kept p xs i d old new l are added =
    added
    ∙ ap (λ (ys : List ℕ). ys ++ filter p (get_or xs i d ∷ [])) are
    ∙ sym (filter-append p (take i xs) (get_or xs i d ∷ []))
    ∙ ap (λ (ys : List ℕ). filter p ys) (sym (take_more xs i d l))

-- at the end of the loop these are all
pub numbers_all : (p : ℕ → Bool) (i count n : ℕ) (made : List ℕ) → i ≤ count → count ≤ i → count ≡ n → made ≡ filter p (range_with_len 0 i) → made ≡ filter p (range_with_len 0 n)
numbers_all p i count n made few past is so =
    let all : i ≡ n = omega arith in
    so ∙ ap (λ (k : ℕ). filter p (range_with_len 0 k)) all
