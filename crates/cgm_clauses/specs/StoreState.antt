-- A store as contracts see it: the problem's clauses and those that were added, each with the hint that names it.
use Rattle.std.specs.Prelude.{◌≡◌, ◌≢◌, ◌⊎◌, ℕ, ◌+◌, List, [], ◌∷◌, ◌++◌, map}
use Rattle.std.specs.List.{All, Contains}
use Rattle.cgm_atom.specs.declared.constraints.Clause.{Clause}
use Rattle.cgm_atom.specs.declared.entries.Hint.{Hint}
use Rattle.cgm_atom.specs.declared.entries.Hint.TheVariants as hint
use Rattle.cgm_atom.specs.ClauseAtoms.{AreKnown}
use Rattle.cgm_atom.specs.Constraints.{Constraint, of_clause}
use Rattle.cgm_atom.specs.Instance.{Instance, var_count}
use Rattle.cgm_trail.specs.Landing.{CanLand, hint_landed}
use Rattle.cgm_clauses.specs.declared.named.Named.{Named}

pub record StoreState : Type 0 where
  -- how many variables there are
  pub vars : ℕ
  pub clauses : List Named
  pub added : List Named

-- the problem's clauses come first
abbrev pub all_clauses : StoreState → List Named
all_clauses s = s.clauses ++ s.added

-- the hint and the clause are a pair of the list
abbrev pub IsPairIn : List Named → Hint → Constraint → Type 0
IsPairIn clauses h k = (n : Named) × Contains clauses n × (h ≡ n.name) × (k ≡ of_clause n.clause)

-- the clauses of a problem, from a number on
abbrev pub numbered : ℕ → List Clause → List Named
numbered number [] = []
numbered number (c ∷ clauses) = record { clause = c; name = hint.Clause number } ∷ numbered (number + 1) clauses

abbrev pub store_started : Instance → StoreState
store_started p = record { vars = var_count p; clauses = numbered 0 p.clauses; added = [] }

-- the store is one of this problem, whatever was added
pub record IsStoreOf (p : Instance) (s : StoreState) : Type 0 where
  pub vars : s.vars ≡ var_count p
  pub clauses : s.clauses ≡ numbered 0 p.clauses

-- each atom's variable is one of so many
abbrev pub HasKnownVariables : ℕ → Named → Type 0
HasKnownVariables count n = AreKnown count n.clause.atoms

-- ---- changes of a store

abbrev pub store_with_clause : StoreState → Clause → Hint → StoreState
store_with_clause s c name = record s { added = s.added ++ record { clause = c; name = name } ∷ [] }

-- the first clause of this name is dropped; where there is none, the list stays
abbrev pub IsForgotten : Hint → List Named → List Named → Type 0
IsForgotten name [] new = new ≡ []
IsForgotten name (n ∷ old) new =
    ((n.name ≡ name) × (new ≡ old)) ⊎ ((n.name ≢ name) × (rest : List Named) × (new ≡ n ∷ rest) × IsForgotten name old rest)

-- names of lemmas that had no place yet become the places where these landed
abbrev pub landed_named : ℕ → Named → Named
landed_named first n = record n { name = hint_landed first n.name }

abbrev pub landed_store : ℕ → StoreState → StoreState
landed_store first s = record s { added = map (landed_named first) s.added }

abbrev pub CanNamesLand : ℕ → List Named → Type 0
CanNamesLand first added = All (λ n. CanLand first n.name) added
