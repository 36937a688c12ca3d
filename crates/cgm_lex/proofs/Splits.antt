-- A list that is cut at each element that passes, by the first of these places.
use Rattle.std.proofs.Common.{◌≡◌, ℕ, ◌+◌, ◌<◌, ◌≤◌, Bool, true, false, cond, ltb, List, [], ◌∷◌, length, take, drop, None, Some, position, refl, arith}
use Rattle.std.specs.List.{slice_split, position_or_len}
use Rattle.std.proofs.lemmas.List.Sums.{position_or_len_is, fails_before_first}
use Rattle.std.proofs.lemmas.List.Quantifiers.{position-Some}
use Rattle.std.proofs.lemmas.List.Splits.{slice_split_none, slice_split_first}
use Rattle.std.proofs.lemmas.Bool.{ltb-false}

false_where_none : (test : Bool) (place : ℕ) → cond test (Some place) None ≡ None → test ≡ false
false_where_none false place e = refl
false_where_none true place e = cc

pub slice_split-position_none : (p : ℕ → Bool) (xs : List ℕ) → position p xs ≡ None → slice_split p xs ≡ xs ∷ []
slice_split-position_none p xs e =
    let past : length xs ≤ position_or_len p xs = ltb-false (position_or_len p xs) (length xs) (false_where_none (ltb (position_or_len p xs) (length xs)) (position_or_len p xs) e) in
    slice_split_none p xs (λ k d within. fails_before_first p xs k d (omega arith))

pub slice_split-position_some : (p : ℕ → Bool) (xs : List ℕ) (i : ℕ) → position p xs ≡ Some i → (slice_split p xs ≡ take i xs ∷ slice_split p (drop (i + 1) xs)) × (i < length xs)
slice_split-position_some p xs i e =
    let found = position-Some p xs i 0 e in
    let within : i < length xs = found.0 in
    let at : position_or_len p xs ≡ i = position_or_len_is p xs i 0 (omega arith) found.2 (λ _. found.1) in
    let cut = slice_split_first p xs 0 (rw at within) in
    (rw at at cut, within)
