-- Clauses that are added one after another: what was added with what is left comes to all.
use Rattle.std.proofs.Common.{◌≡◌, ℕ, suc, ◌+◌, ◌<◌, ◌≤◌, List, [], ◌∷◌, ◌++◌, length, get_or, map, drop, refl, sym, ap, ◌∙◌, subst, arith}
use Rattle.std.specs.List.{All, enumerate_from, flat_map}
use Rattle.std.proofs.lemmas.List.{append-nil, append_assoc, drop_more, drop_all, length-append, length-map, map-append}
use Rattle.std.proofs.lemmas.List.Elements.{All-cons, All-nil}
use Rattle.cgm_atom.specs.declared.constraints.Clause.{Clause}
use Rattle.cgm_atom.specs.Adding.{CanTake, with_written}
use Rattle.cgm_atom.specs.Building.{without_repeats}
use Rattle.cgm_atom.specs.Instance.{Instance, var_count}
use Rattle.cgm_atom.specs.Limits.{IsClauseOf}

-- ---- lists of which each one is such

pub All-front : {X : Type 0} (P : X → Type 0) (xs ys : List X) → All P (xs ++ ys) → All P xs
All-front P [] ys h = All-nil P
All-front P (x ∷ xs) ys h = All-cons P x xs (h 0 x (omega arith)) (All-front P xs ys (λ k d l. h (suc k) d (omega arith)))

pub All-back : {X : Type 0} (P : X → Type 0) (xs ys : List X) → All P (xs ++ ys) → All P ys
All-back P [] ys h = h
All-back P (x ∷ xs) ys h = All-back P xs ys (λ k d l. h (suc k) d (omega arith))

-- ---- two additions

pub with_written-append : (p : Instance) (xs ys : List Clause) → with_written (with_written p xs) ys ≡ with_written p (xs ++ ys)
with_written-append p xs ys =
    ap (λ (clauses : List Clause). record p { clauses = clauses })
    (append_assoc p.clauses (map without_repeats xs) (map without_repeats ys)
    ∙ ap (λ (clauses : List Clause). p.clauses ++ clauses) (sym (map-append without_repeats xs ys)))

pub with_written-nil : (p : Instance) → with_written p [] ≡ p
with_written-nil p = ap (λ (clauses : List Clause). record p { clauses = clauses }) (append-nil p.clauses)

first_fits : (p : Instance) (xs ys : List Clause) → CanTake p (xs ++ ys) → CanTake p xs
first_fits p xs ys h =
    let room = h.room in
    let total = length-append xs ys in
    record { known = All-front (IsClauseOf (var_count p)) xs ys h.known; room = omega arith }

rest_fits : (p : Instance) (xs ys : List Clause) → CanTake p (xs ++ ys) → CanTake (with_written p xs) ys
rest_fits p xs ys h =
    let room = h.room in
    let total = length-append xs ys in
    let added = length-append p.clauses (map without_repeats xs) in
    let same = length-map xs without_repeats in
    record { known = All-back (IsClauseOf (var_count p)) xs ys h.known; room = omega arith }

-- ---- some of the clauses are added, and the rest is left

pub record AreLeft (old : Instance) (all : List Clause) (new : Instance) (rest : List Clause) : Type 0 where
  pub room : CanTake new rest
  pub total : with_written new rest ≡ with_written old all

pub left_all : (p : Instance) (clauses : List Clause) → CanTake p clauses → AreLeft p clauses p clauses
left_all p clauses h = record { room = h; total = refl }

pub first_left : (old p : Instance) (all xs ys : List Clause) → AreLeft old all p (xs ++ ys) → CanTake p xs
first_left old p all xs ys far = first_fits p xs ys far.room

pub left_more : (old p q : Instance) (all xs ys : List Clause) → AreLeft old all p (xs ++ ys) → q ≡ with_written p xs → AreLeft old all q ys
left_more old p q all xs ys far e =
    let next : AreLeft old all (with_written p xs) ys = record { room = rest_fits p xs ys far.room; total = with_written-append p xs ys ∙ far.total } in
    subst (λ (n : Instance). AreLeft old all n ys) (sym e) next

pub left_none : (old p : Instance) (all : List Clause) → AreLeft old all p [] → p ≡ with_written old all
left_none old p all far = sym (with_written-nil p) ∙ far.total

-- the last ones are added
pub left_last : (old p q : Instance) (all xs : List Clause) → AreLeft old all p xs → q ≡ with_written p xs → q ≡ with_written old all
left_last old p q all xs far e = e ∙ far.total

-- ---- a loop over a list, which adds `part i x` for the item x at place i, so that `whole i rest` is left

module _ {X : Type 0} (whole : ℕ → List X → List Clause) (part : ℕ → X → List Clause) where
  abbrev pub Steps : Type 0
  Steps = (i : ℕ) (x : X) (rest : List X) → whole i (x ∷ rest) ≡ part i x ++ whole (i + 1) rest

  here : (xs : List X) (i : ℕ) (x : X) → Steps → i < length xs → x ≡ get_or xs i x → whole i (drop i xs) ≡ part i x ++ whole (i + 1) (drop (i + 1) xs)
  here xs i x steps within is =
      ap (λ (rest : List X). whole i rest) (drop_more xs i x within ∙ ap (λ (y : X). y ∷ drop (i + 1) xs) (sym is))
      ∙ steps i x (drop (i + 1) xs)

  pub loop_first : (old p : Instance) (all : List Clause) (xs : List X) (i : ℕ) (x : X) → Steps → i < length xs → x ≡ get_or xs i x → AreLeft old all p (whole i (drop i xs)) → CanTake p (part i x)
  loop_first old p all xs i x steps within is far =
      first_left old p all (part i x) (whole (i + 1) (drop (i + 1) xs))
      (subst (λ (rest : List Clause). AreLeft old all p rest) (here xs i x steps within is) far)

  pub loop_more : (old p q : Instance) (all : List Clause) (xs : List X) (i : ℕ) (x : X) → Steps → i < length xs → x ≡ get_or xs i x → AreLeft old all p (whole i (drop i xs)) → q ≡ with_written p (part i x) → AreLeft old all q (whole (i + 1) (drop (i + 1) xs))
  loop_more old p q all xs i x steps within is far e =
      left_more old p q all (part i x) (whole (i + 1) (drop (i + 1) xs))
      (subst (λ (rest : List Clause). AreLeft old all p rest) (here xs i x steps within is) far) e

  pub loop_end : (old p : Instance) (all : List Clause) (xs : List X) (i : ℕ) → whole i [] ≡ [] → length xs ≤ i → AreLeft old all p (whole i (drop i xs)) → p ≡ with_written old all
  loop_end old p all xs i ends past far =
      left_none old p all
      (subst (λ (rest : List Clause). AreLeft old all p rest) (ap (λ (rest : List X). whole i rest) (drop_all i xs past) ∙ ends) far)

-- ---- the three kinds of such a loop

abbrev pub mapped : {X : Type 0} → (X → Clause) → ℕ → List X → List Clause
mapped f i rest = map f rest

abbrev pub one_of : {X : Type 0} → (X → Clause) → ℕ → X → List Clause
one_of f i x = f x ∷ []

pub mapped-steps : {X : Type 0} (f : X → Clause) → Steps (mapped f) (one_of f)
mapped-steps f i x rest = refl

abbrev pub flattened : {X : Type 0} → (X → List Clause) → ℕ → List X → List Clause
flattened f i rest = flat_map f rest

abbrev pub all_of : {X : Type 0} → (X → List Clause) → ℕ → X → List Clause
all_of f i x = f x

pub flattened-steps : {X : Type 0} (f : X → List Clause) → Steps (flattened f) (all_of f)
flattened-steps f i x rest = refl

abbrev pub numbered : {X : Type 0} → (ℕ × X → List Clause) → ℕ → ℕ → List X → List Clause
numbered f first i rest = flat_map f (enumerate_from (first + i) rest)

abbrev pub all_at : {X : Type 0} → (ℕ × X → List Clause) → ℕ → ℕ → X → List Clause
all_at f first i x = f (first + i, x)

pub numbered-steps : {X : Type 0} (f : ℕ × X → List Clause) (first : ℕ) → Steps (numbered f first) (all_at f first)
numbered-steps f first i x rest =
    let next : first + i + 1 ≡ first + (i + 1) = omega arith in
    ap (λ (k : ℕ). f (first + i, x) ++ flat_map f (enumerate_from k rest)) next

-- the loop begins at the first item
pub numbered-all : {X : Type 0} (f : ℕ × X → List Clause) (first : ℕ) (xs : List X) → numbered f first 0 xs ≡ flat_map f (enumerate_from first xs)
numbered-all f first xs =
    let same : first + 0 ≡ first = omega arith in
    ap (λ (k : ℕ). flat_map f (enumerate_from k xs)) same
