-- What is learned from a conflict: a lemma that is accepted after the log and the pending lemmas, and that is unit after a cut.
use Rattle.std.specs.Prelude.{◌≡◌, ◌≢◌, true, ℕ, ◌<◌, ◌≤◌, List, [], ◌∷◌, ◌++◌, length, Option, Some, None}
use Rattle.std.specs.List.{All}
use Rattle.cgm_atom.specs.declared.constraints.Atom.{Atom}
use Rattle.cgm_atom.specs.declared.entries.Entry.{Entry}
use Rattle.cgm_atom.specs.declared.entries.Entry.TheVariants.{Best, Lemma}
use Rattle.cgm_atom.specs.declared.entries.Hint.{Hint}
use Rattle.cgm_atom.specs.declared.entries.Hint.TheVariants as hint
use Rattle.cgm_atom.specs.Acceptance.{first_fault}
use Rattle.cgm_atom.specs.Bounds.{Bounds}
use Rattle.cgm_atom.specs.Constraints.{Constraint, left_by}
use Rattle.cgm_atom.specs.Instance.{Instance}
use Rattle.cgm_atom.specs.Limits.{max_workers}
use Rattle.cgm_atom.specs.LogState.{LogState, named, state_after}
use Rattle.cgm_atom.specs.Narrowing.{is_false_in}
use Rattle.cgm_atom.specs.Placing.{all_placed, placed, placed_entry}
use Rattle.cgm_atom.specs.Ranges.{IsInRange}
use Rattle.cgm_trail.specs.TrailState.{IsOpenIn, TrailState, box_of, cut_trail, level_of}
use Rattle.cgm_learn.specs.declared.learned.Learned.{Learned}

-- ---- the log and the pending lemmas

-- the state of the log that the pending lemmas, each placed, follow
abbrev pub state_with_pending : LogState → List Entry → LogState
state_with_pending s lemmas = state_after s (all_placed (length s.entries) lemmas)

-- a lemma with atoms
abbrev pub IsOpenLemma : Entry → Type 0
IsOpenLemma (Best by values) = ⊥
IsOpenLemma (Lemma by clause hints bound) = clause.atoms ≢ []

-- of entries the hint names one of the log's, of pending lemmas one of so many, from 1
abbrev pub IsKnownHint : (entries lemmas : ℕ) → Hint → Type 0
IsKnownHint entries lemmas (hint.Clause n) = Unit {0}
IsKnownHint entries lemmas (hint.Row n) = Unit {0}
IsKnownHint entries lemmas (hint.Entry place) = place ≤ entries
IsKnownHint entries lemmas (hint.Own i) = (1 ≤ i) × (i ≤ lemmas)
IsKnownHint entries lemmas (hint.Cut ordinal part) = Unit {0}

-- the clause or row that a hint names, where the pending lemmas follow the log
abbrev pub named_after : Instance → LogState → List Entry → Hint → Option Constraint
named_after p s lemmas h = named p (state_with_pending s lemmas) (placed (length s.entries) h)

-- the hint names this clause or row
abbrev pub IsNameAfter : Instance → LogState → List Entry → Hint → Constraint → Type 0
IsNameAfter p s lemmas h k = IsKnownHint (length s.entries) (length lemmas) h × (named_after p s lemmas h ≡ Some k)

-- what the hint names is in conflict with the box
abbrev pub IsConflictIn : Instance → LogState → List Entry → Bounds → Hint → Type 0
IsConflictIn p s lemmas b h = (k : Constraint) × IsNameAfter p s lemmas h k × (left_by b k ≡ None)

-- ---- what is learned

-- the entry that a worker makes of it
abbrev pub lemma_by : ℕ → Learned → Entry
lemma_by worker l = Lemma worker l.clause l.hints l.bound

-- it has no fault after the log and the pending lemmas
abbrev pub IsAcceptedLemma : Instance → LogState → List Entry → Learned → Type 0
IsAcceptedLemma p s lemmas l =
    (worker : ℕ) → first_fault p (state_with_pending s lemmas) (placed_entry (length s.entries) (lemma_by worker l)) ≡ None

-- its numbers are within the ranges of a certificate
abbrev pub IsLemmaInRange : Learned → Type 0
IsLemmaInRange l = (worker : ℕ) → worker < max_workers → IsInRange (lemma_by worker l)

-- the last atom is neither true nor false in the box, and all before it are false
pub record IsUnitAtLast (b : Bounds) (atoms : List Atom) : Type 0 where
  pub others : List Atom
  pub last : Atom
  pub parts : atoms ≡ others ++ last ∷ []
  pub false_others : All (λ a. is_false_in b a ≡ true) others
  pub open_last : IsOpenIn b last

-- a clause with atoms is unit after a cut to its level, which is less than the trail's
abbrev pub IsUnitAfterCut : TrailState → Learned → Type 0
IsUnitAfterCut t l =
    l.clause.atoms ≢ [] → (l.level < level_of t.changes) × IsUnitAtLast (box_of (cut_trail l.level t)) l.clause.atoms
