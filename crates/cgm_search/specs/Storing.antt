-- What a worker's store has after the log that it has seen: the clauses of the problem, the cut of the last best, and lemmas, each under a name of it.
use Rattle.std.specs.Prelude.{◌≡◌, Bool, true, false, not, ℕ, ◌+◌, ◌<◌, ◌≤◌, List, [], ◌∷◌, ◌++◌, length, Some}
use Rattle.std.specs.List.{All, Contains, filter}
use Rattle.std.specs.Option.{option_and_then, option_map_or}
use Rattle.cgm_atom.specs.declared.constraints.Clause.{Clause}
use Rattle.cgm_atom.specs.declared.entries.Entry.{Entry}
use Rattle.cgm_atom.specs.declared.entries.Entry.TheVariants.{Best, Lemma}
use Rattle.cgm_atom.specs.declared.entries.Hint.{Hint}
use Rattle.cgm_atom.specs.declared.entries.Hint.TheVariants as hint
use Rattle.cgm_atom.specs.Constraints.{Constraint, of_clause}
use Rattle.cgm_atom.specs.Cut.{cut}
use Rattle.cgm_atom.specs.Instance.{Instance, vector}
use Rattle.cgm_atom.specs.LogState.{LogState, item_at, last_best, lemma_clause, state_of}
use Rattle.cgm_clauses.specs.declared.named.Named.{Named}
use Rattle.cgm_clauses.specs.StoreState.{IsStoreOf, StoreState}
use Rattle.cgm_learn.specs.Learning.{IsNameAfter}

-- a lemma of at most so many atoms stays in the store
abbrev pub short_length : ℕ
short_length = 8

abbrev pub is_cut : Hint → Bool
is_cut (hint.Clause n) = false
is_cut (hint.Row n) = false
is_cut (hint.Entry place) = false
is_cut (hint.Own i) = false
is_cut (hint.Cut ordinal part) = true

abbrev pub is_of_cut : Named → Bool
is_of_cut n = is_cut n.name

-- the clauses that are no part of a cut
abbrev pub without_cut : List Named → List Named
without_cut clauses = filter (λ n. not (is_of_cut n)) clauses

-- clauses as the parts, from a part on, of the cut of the best with an ordinal
abbrev pub cut_named : ℕ → ℕ → List Clause → List Named
cut_named ordinal part [] = []
cut_named ordinal part (c ∷ clauses) =
    record { clause = c; name = hint.Cut ordinal part } ∷ cut_named ordinal (part + 1) clauses

-- the cut of the last best, if there is one
abbrev pub last_cut : Instance → LogState → List Named
last_cut p s =
    option_map_or (λ values. cut_named (length s.bests) 0 (cut p.objectives (vector p values))) (last_best s) []

-- the hint names the clause or row, and it names nothing that wasn't seen
abbrev pub IsSeenName : Instance → LogState → Hint → Constraint → Type 0
IsSeenName p s h k = IsNameAfter p s [] h k

abbrev pub lemma_named : ℕ → Clause → Named
lemma_named place c = record { clause = c; name = hint.Entry place }

-- the entry is a lemma of more atoms
abbrev pub IsLongLemma : Entry → Type 0
IsLongLemma (Best by values) = ⊥
IsLongLemma (Lemma by clause hints bound) = short_length < length clause.atoms

-- each lemma of few atoms is in the store, under its place
abbrev pub HasShortLemmas : List Entry → List Named → Type 0
HasShortLemmas log added =
    (place : ℕ) (c : Clause)
    → option_and_then lemma_clause (item_at log place) ≡ Some c
    → length c.atoms ≤ short_length
    → Contains added (lemma_named place c)

pub record IsStoreFor (p : Instance) (log : List Entry) (store : StoreState) : Type 0 where
  pub of_problem : IsStoreOf p store
  pub names : All (λ n. IsSeenName p (state_of log) n.name (of_clause n.clause)) store.added
  -- of cuts it has that of the last best alone, each part once
  pub last_cut : filter is_of_cut store.added ≡ last_cut p (state_of log)
  pub lemmas : HasShortLemmas log store.added

-- what is added once the next entry is seen: a best's cut takes the place of the one before it, and a lemma comes last
abbrev pub added_after : Instance → LogState → List Named → Entry → List Named
added_after p s added (Best by values) =
    without_cut added ++ cut_named (length s.bests + 1) 0 (cut p.objectives (vector p values))
added_after p s added (Lemma by clause hints bound) = added ++ lemma_named (length s.entries + 1) clause ∷ []

abbrev pub store_after : Instance → LogState → StoreState → Entry → StoreState
store_after p s store e = record store { added = added_after p s store.added e }
