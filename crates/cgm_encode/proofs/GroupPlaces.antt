-- Facts of the items of a list with their places: of lists joined, mapped, numbered and flattened.
use Rattle.std.proofs.Common.{◌≡◌, ℕ, zero, suc, ◌+◌, ◌<◌, List, [], ◌∷◌, ◌++◌, length, get_or, map, replicate, subst, arith}
use Rattle.std.specs.List.{All, enumerate_from, flat_map, range_with_len}
use Rattle.std.proofs.lemmas.List.Elements.{All-append, All-cons, All-head, All-nil, All-tail}
use Rattle.cgm_atom.proofs.Additions.{All-back, All-front}
use Rattle.cgm_base.specs.Place.{EachFrom}

pub moved : (P : ℕ → Type 0) (i j : ℕ) → i ≡ j → P i → P j
moved P i j e h = subst P e h

-- ---- lists joined

pub each_front : {X : Type 0} (P : ℕ → X → Type 0) (place : ℕ) (xs ys : List X) → EachFrom place P (xs ++ ys) → EachFrom place P xs
each_front P place [] ys h = tt
each_front P place (x ∷ xs) ys h = (h.0, each_front P (place + 1) xs ys h.1)

pub each_back : {X : Type 0} (P : ℕ → X → Type 0) (place : ℕ) (xs ys : List X) → EachFrom place P (xs ++ ys) → EachFrom (place + length xs) P ys
each_back P place [] ys h = moved (λ n. EachFrom n P ys) place (place + 0) (omega arith) h
each_back P place (x ∷ xs) ys h = moved (λ n. EachFrom n P ys) (place + 1 + length xs) (place + length (x ∷ xs)) (omega arith) (each_back P (place + 1) xs ys h.1)

pub each_joined : {X : Type 0} (P : ℕ → X → Type 0) (place : ℕ) (xs ys : List X) → EachFrom place P xs → EachFrom (place + length xs) P ys → EachFrom place P (xs ++ ys)
each_joined P place [] ys h k = moved (λ n. EachFrom n P ys) (place + 0) place (omega arith) k
each_joined P place (x ∷ xs) ys h k = (h.0, each_joined P (place + 1) xs ys h.1 (moved (λ n. EachFrom n P ys) (place + length (x ∷ xs)) (place + 1 + length xs) (omega arith) k))

-- ---- facts at other places, and of other items

pub each_weaker : {X : Type 0} (P Q : ℕ → X → Type 0) (here there : ℕ) (xs : List X) → ((k : ℕ) (d : X) → k < length xs → P (here + k) (get_or xs k d) → Q (there + k) (get_or xs k d)) → EachFrom here P xs → EachFrom there Q xs
each_weaker P Q here there [] h each = tt
each_weaker P Q here there (x ∷ xs) h each =
    let first = h 0 x (omega arith) (moved (λ n. P n x) here (here + 0) (omega arith) each.0) in (
      moved (λ n. Q n x) (there + 0) there (omega arith) first,
      each_weaker P Q (here + 1) (there + 1) xs
          (λ k d l p.
          let y = get_or xs k d in
          moved (λ n. Q n y) (there + suc k) (there + 1 + k) (omega arith)
          (h (suc k) d (omega arith) (moved (λ n. P n y) (here + 1 + k) (here + suc k) (omega arith) p)))
          each.1,
    )

pub each_mapped : {X Y : Type 0} (P : ℕ → Y → Type 0) (f : X → Y) (place : ℕ) (xs : List X) → EachFrom place P (map f xs) → EachFrom place (λ k x. P k (f x)) xs
each_mapped P f place [] h = tt
each_mapped P f place (x ∷ xs) h = (h.0, each_mapped P f (place + 1) xs h.1)

pub each_to_mapped : {X Y : Type 0} (P : ℕ → Y → Type 0) (f : X → Y) (place : ℕ) (xs : List X) → EachFrom place (λ k x. P k (f x)) xs → EachFrom place P (map f xs)
each_to_mapped P f place [] h = tt
each_to_mapped P f place (x ∷ xs) h = (h.0, each_to_mapped P f (place + 1) xs h.1)

pub each_at : {X : Type 0} (P : ℕ → X → Type 0) (place : ℕ) (xs : List X) (k : ℕ) (d : X) → EachFrom place P xs → k < length xs → P (place + k) (get_or xs k d)
each_at P place [] k d each l = absurd (omega arith)
each_at P place (x ∷ xs) zero d each l = moved (λ n. P n x) place (place + 0) (omega arith) each.0
each_at P place (x ∷ xs) (suc k) d each l = moved (λ n. P n (get_or xs k d)) (place + 1 + k) (place + suc k) (omega arith) (each_at P (place + 1) xs k d each.1 (omega arith))

pub each_of : {X : Type 0} (P : ℕ → X → Type 0) (place : ℕ) (xs : List X) → ((k : ℕ) (d : X) → k < length xs → P (place + k) (get_or xs k d)) → EachFrom place P xs
each_of P place [] h = tt
each_of P place (x ∷ xs) h = (
  moved (λ n. P n x) (place + 0) place (omega arith) (h 0 x (omega arith)),
  each_of P (place + 1) xs (λ k d l. moved (λ n. P n (get_or xs k d)) (place + suc k) (place + 1 + k) (omega arith) (h (suc k) d (omega arith))),
)

pub each_same : {X : Type 0} (P : ℕ → X → Type 0) (place n : ℕ) (x : X) → EachFrom place P (replicate n x) → (k : ℕ) → k < n → P (place + k) x
each_same P place zero x each k l = absurd (omega arith)
each_same P place (suc n) x each zero l = moved (λ i. P i x) place (place + 0) (omega arith) each.0
each_same P place (suc n) x each (suc k) l = moved (λ i. P i x) (place + 1 + k) (place + suc k) (omega arith) (each_same P (place + 1) n x each.1 k (omega arith))

pub each_of_same : {X : Type 0} (P : ℕ → X → Type 0) (place n : ℕ) (x : X) → ((k : ℕ) → k < n → P (place + k) x) → EachFrom place P (replicate n x)
each_of_same P place zero x h = tt
each_of_same P place (suc n) x h = (
  moved (λ i. P i x) (place + 0) place (omega arith) (h 0 (omega arith)),
  each_of_same P (place + 1) n x (λ k l. moved (λ i. P i x) (place + suc k) (place + 1 + k) (omega arith) (h (suc k) (omega arith))),
)

-- ---- numbered items and flattened lists

pub each_numbered : {X : Type 0} (P : ℕ → X → Type 0) (place : ℕ) (xs : List X) → All (λ e. P e.0 e.1) (enumerate_from place xs) → EachFrom place P xs
each_numbered P place [] h = tt
each_numbered P place (x ∷ xs) h =
    (All-head (λ e. P e.0 e.1) (place, x) (enumerate_from (place + 1) xs) h, each_numbered P (place + 1) xs (All-tail (λ e. P e.0 e.1) (place, x) (enumerate_from (place + 1) xs) h))

pub all_numbered : {X : Type 0} (P : ℕ → X → Type 0) (place : ℕ) (xs : List X) → EachFrom place P xs → All (λ e. P e.0 e.1) (enumerate_from place xs)
all_numbered P place [] h = All-nil (λ e. P e.0 e.1)
all_numbered P place (x ∷ xs) h = All-cons (λ e. P e.0 e.1) (place, x) (enumerate_from (place + 1) xs) h.0 (all_numbered P (place + 1) xs h.1)

pub all_ranged : (P : ℕ → Type 0) (place n : ℕ) → ((k : ℕ) → k < n → P (place + k)) → All P (range_with_len place n)
all_ranged P place zero h = All-nil P
all_ranged P place (suc n) h =
    All-cons P place (range_with_len (place + 1) n) (moved P (place + 0) place (omega arith) (h 0 (omega arith)))
    (all_ranged P (place + 1) n (λ k l. moved P (place + suc k) (place + 1 + k) (omega arith) (h (suc k) (omega arith))))

pub ranged_at : (P : ℕ → Type 0) (place n : ℕ) → All P (range_with_len place n) → (k : ℕ) → k < n → P (place + k)
ranged_at P place zero h k l = absurd (omega arith)
ranged_at P place (suc n) h zero l = moved P place (place + 0) (omega arith) (All-head P place (range_with_len (place + 1) n) h)
ranged_at P place (suc n) h (suc k) l = moved P (place + 1 + k) (place + suc k) (omega arith) (ranged_at P (place + 1) n (All-tail P place (range_with_len (place + 1) n) h) k (omega arith))

-- from place 0
pub ranged_zero : (P : ℕ → Type 0) (n : ℕ) → All P (range_with_len 0 n) → (k : ℕ) → k < n → P k
ranged_zero P n h k l = moved P (0 + k) k (omega arith) (ranged_at P 0 n h k l)

pub all_ranged_zero : (P : ℕ → Type 0) (n : ℕ) → ((k : ℕ) → k < n → P k) → All P (range_with_len 0 n)
all_ranged_zero P n h = all_ranged P 0 n (λ k l. moved P k (0 + k) (omega arith) (h k l))

pub all_flat : {X Y : Type 0} (P : Y → Type 0) (f : X → List Y) (xs : List X) → All P (flat_map f xs) → All (λ x. All P (f x)) xs
all_flat P f [] h = All-nil (λ x. All P (f x))
all_flat P f (x ∷ xs) h = All-cons (λ y. All P (f y)) x xs (All-front P (f x) (flat_map f xs) h) (all_flat P f xs (All-back P (f x) (flat_map f xs) h))

pub all_of_flat : {X Y : Type 0} (P : Y → Type 0) (f : X → List Y) (xs : List X) → All (λ x. All P (f x)) xs → All P (flat_map f xs)
all_of_flat P f [] h = All-nil P
all_of_flat P f (x ∷ xs) h = All-append P (f x) (flat_map f xs) (All-head (λ y. All P (f y)) x xs h) (all_of_flat P f xs (All-tail (λ y. All P (f y)) x xs h))
