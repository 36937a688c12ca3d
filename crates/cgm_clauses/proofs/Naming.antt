-- Lists of named clauses: those of a problem, and lists after forgetting and landing.
use Rattle.std.proofs.Common.{◌≡◌, ◌≢◌, inl, inr, ℕ, zero, suc, ◌+◌, ◌<◌, List, [], ◌∷◌, ◌++◌, length, get_or, drop, map, set, take, refl, sym, ap, ◌∙◌, append_assoc, arith}
use Rattle.std.specs.Prelude.{slice_get}
use Rattle.std.specs.Option.{option_map}
use Rattle.std.specs.declared.option.Option.TheVariants.{Some}
use Rattle.std.specs.List.{All, AllWithin, Contains, HoldsAt, remove}
use Rattle.std.proofs.lemmas.List.{drop_more, get_or_default}
use Rattle.std.proofs.lemmas.List.Edits.{map_over_more}
use Rattle.std.proofs.lemmas.List.Elements.{All-cons, All-contains, All-contains_itself, All-head, All-map, All-nil, All-tail, All-weaker, Contains-append_left}
use Rattle.std.proofs.lemmas.Option.{get_or_from_slice_get}
use Rattle.cgm_atom.specs.declared.constraints.Clause.{Clause}
use Rattle.cgm_atom.specs.declared.entries.Hint.{Hint}
use Rattle.cgm_atom.specs.declared.entries.Hint.TheVariants as hint
use Rattle.cgm_atom.specs.Bounds.{Bounds}
use Rattle.cgm_atom.specs.ClauseAtoms.{AreKnown}
use Rattle.cgm_atom.specs.Constraints.{Constraint, of_clause}
use Rattle.cgm_atom.specs.Instance.{Instance}
use Rattle.cgm_atom.specs.Limits.{IsClauseOf}
use Rattle.cgm_atom.specs.LogState.{LogState, named}
use Rattle.cgm_trail.specs.Landing.{hint_landed}
use Rattle.cgm_clauses.specs.declared.named.Named.{Named}
use Rattle.cgm_clauses.specs.Standing.{IsQuietIn}
use Rattle.cgm_clauses.specs.StoreState.{IsForgotten, HasKnownVariables, IsPairIn, IsStoreOf, StoreState, all_clauses, landed_named, numbered}
use Rattle.cgm_clauses.specs.Sweeping.{AreQuiet}

-- ---- the clauses of a problem

numbered_more : (clauses : List Clause) (n : ℕ) (c : Clause) → n < length clauses → slice_get clauses n ≡ Some c → numbered n (drop n clauses) ≡ record { clause = c; name = hint.Clause n } ∷ numbered (n + 1) (drop (n + 1) clauses)
numbered_more clauses n c short e =
    ap (numbered n) (drop_more clauses n c short ∙ ap (λ (x : Clause). x ∷ drop (n + 1) clauses) (get_or_from_slice_get clauses n c c e))

-- one clause more is copied
pub numbered_pushed : (clauses : List Clause) (items new : List Named) (n : ℕ) (c copied : Clause) → n < length clauses → slice_get clauses n ≡ Some c → copied ≡ c → new ≡ items ++ record { clause = copied; name = hint.Clause n } ∷ [] → items ++ numbered n (drop n clauses) ≡ numbered 0 clauses → new ++ numbered (n + 1) (drop (n + 1) clauses) ≡ numbered 0 clauses
numbered_pushed clauses items new n c copied short e ec en h =
    rw (en, ec)
    (append_assoc items (record { clause = c; name = hint.Clause n } ∷ []) (numbered (n + 1) (drop (n + 1) clauses))
    ∙ ap (λ (rest : List Named). items ++ rest) (sym (numbered_more clauses n c short e))
    ∙ h)

atoms_known : (count : ℕ) (c : Clause) → IsClauseOf count c → AreKnown count c.atoms
atoms_known count c h = λ k d short. (h k d short).0

pub numbered_known : (count n : ℕ) (clauses : List Clause) → All (IsClauseOf count) clauses → All (HasKnownVariables count) (numbered n clauses)
numbered_known count n [] h = All-nil (HasKnownVariables count)
numbered_known count n (c ∷ clauses) h =
    All-cons (HasKnownVariables count) (record { clause = c; name = hint.Clause n }) (numbered (n + 1) clauses)
    (atoms_known count c (All-head (IsClauseOf count) c clauses h))
    (numbered_known count (n + 1) clauses (All-tail (IsClauseOf count) c clauses h))

-- where the store is quiet, the problem's clauses leave the box
quiet_clauses : (b : Bounds) (n : ℕ) (clauses : List Clause) → All (λ named. IsQuietIn b named.clause) (numbered n clauses) → All (IsQuietIn b) clauses
quiet_clauses b n [] h = All-nil (IsQuietIn b)
quiet_clauses b n (c ∷ clauses) h =
    let first : Named = record { clause = c; name = hint.Clause n } in
    All-cons (IsQuietIn b) c clauses
    (All-head (λ named. IsQuietIn b named.clause) first (numbered (n + 1) clauses) h)
    (quiet_clauses b (n + 1) clauses (All-tail (λ named. IsQuietIn b named.clause) first (numbered (n + 1) clauses) h))

pub quiet_store : (p : Instance) (s : StoreState) (b : Bounds) → IsStoreOf p s → AreQuiet b (all_clauses s) → All (IsQuietIn b) p.clauses
quiet_store p s b h quiet =
    let own : AreQuiet b s.clauses = All-weaker (Contains s.clauses) (λ n. IsQuietIn b n.clause)
    (λ (n : Named) (there : Contains s.clauses n). All-contains (λ m. IsQuietIn b m.clause) (all_clauses s) n quiet (Contains-append_left s.clauses s.added n there))
    s.clauses (All-contains_itself s.clauses) in
    quiet_clauses b 0 p.clauses (rw h.clauses at own)

named_from : (p : Instance) (log : LogState) (n : ℕ) (clauses : List Clause) → ((i : ℕ) → slice_get clauses i ≡ slice_get p.clauses (n + i)) → All (λ m. named p log m.name ≡ Some (of_clause m.clause)) (numbered n clauses)
unfolding named
named_from p log n [] h = All-nil (λ m. named p log m.name ≡ Some (of_clause m.clause))
named_from p log n (c ∷ clauses) h =
    let start : n + 0 ≡ n = omega arith in
    All-cons (λ m. named p log m.name ≡ Some (of_clause m.clause)) (record { clause = c; name = hint.Clause n }) (numbered (n + 1) clauses)
    (ap (option_map of_clause) (sym (h 0 ∙ ap (slice_get p.clauses) start)))
    (named_from p log (n + 1) clauses
    (λ i. let next : n + suc i ≡ n + 1 + i = omega arith in h (suc i) ∙ ap (slice_get p.clauses) next))

-- the names of the problem's clauses name them
pub problem_named : (p : Instance) (log : LogState) (h : Hint) (k : Constraint) → IsPairIn (numbered 0 p.clauses) h k → named p log h ≡ Some k
problem_named p log h k pair =
    rw (pair.2, pair.3)
    (All-contains (λ m. named p log m.name ≡ Some (of_clause m.clause)) (numbered 0 p.clauses) pair.0
    (named_from p log 0 p.clauses (λ i. let same : i ≡ 0 + i = omega arith in ap (slice_get p.clauses) same)) pair.1)

-- ---- forgetting

pub forgotten_at : (name : Hint) (xs : List Named) (i : ℕ) → AllWithin (λ n. n.name ≢ name) xs 0 i → i < length xs → HoldsAt (λ n. n.name ≡ name) xs i → IsForgotten name xs (remove xs i)
forgotten_at name [] i others short found = absurd (omega arith)
forgotten_at name (x ∷ xs) zero others short found = inl (found x, refl)
forgotten_at name (x ∷ xs) (suc i) others short found =
    inr (
      others 0 x (omega arith) (omega arith),
      remove xs i,
      refl,
      forgotten_at name xs i (λ k d from below. others (suc k) d (omega arith) (omega arith)) (omega arith) (λ d. found d),
    )

pub forgotten_none : (name : Hint) (xs : List Named) → AllWithin (λ n. n.name ≢ name) xs 0 (length xs) → IsForgotten name xs xs
forgotten_none name [] others = refl
forgotten_none name (x ∷ xs) others =
    inr (
      others 0 x (omega arith) (omega arith),
      xs,
      refl,
      forgotten_none name xs (λ k d from below. others (suc k) d (omega arith) (omega arith)),
    )

pub forgotten_all : (P : Named → Type 0) (name : Hint) (old new : List Named) → IsForgotten name old new → All P old → All P new
forgotten_all P name [] new h k = rw h k
forgotten_all P name (x ∷ old) new (inl h) k = rw h.1 (All-tail P x old k)
forgotten_all P name (x ∷ old) new (inr h) k =
    rw h.2 (All-cons P x h.1 (All-head P x old k) (forgotten_all P name old h.1 h.3 (All-tail P x old k)))

-- what is left was there
pub forgotten_contains : (name : Hint) (old new : List Named) (n : Named) → IsForgotten name old new → Contains new n → Contains old n
forgotten_contains name old new n h k =
    All-contains (Contains old) new n (forgotten_all (Contains old) name old new h (All-contains_itself old)) k

-- ---- landing

pub landed_known : (count first : ℕ) (added : List Named) → All (HasKnownVariables count) added → All (HasKnownVariables count) (map (landed_named first) added)
landed_known count first added h = All-map (HasKnownVariables count) (landed_named first) added h

-- one name more is landed, in place
pub landed_more : (first : ℕ) (xs ys : List Named) (i : ℕ) (d : Named) (name : Hint) → i < length xs → i < length ys → ys ≡ map (landed_named first) (take i xs) ++ drop i xs → name ≡ hint_landed first (get_or ys i d).name → set ys i (record { clause = (get_or ys i d).clause; name = name }) ≡ map (landed_named first) (take (i + 1) xs) ++ drop (i + 1) xs
landed_more first xs ys i d name h k e f =
    rw f (map_over_more (landed_named first) xs ys i (get_or ys i d) h e (get_or_default ys i d (get_or ys i d) k))
