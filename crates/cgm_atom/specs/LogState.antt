-- What the next entry of a log is tested against: the live entries, the places of the bests, and whether it is closed.
use Rattle.std.specs.Prelude.{Bool, false, ◌||◌, ℕ, zero, suc, max, ℤ, List, [], ◌∷◌, ◌++◌, slice_get, length, ◌==◌, Option, Some, None}
use Rattle.std.specs.Option.{option_map, option_and_then, option_flatten, option_map_or}
use Rattle.cgm_atom.specs.declared.constraints.Clause.{Clause}
use Rattle.cgm_atom.specs.declared.entries.Entry.{Entry}
use Rattle.cgm_atom.specs.declared.entries.Entry.TheVariants.{Best, Lemma}
use Rattle.cgm_atom.specs.declared.entries.Hint.{Hint}
use Rattle.cgm_atom.specs.declared.entries.Hint.TheVariants as hint
use Rattle.cgm_atom.specs.Bounds.{Bounds}
use Rattle.cgm_atom.specs.Constraints.{Constraint, left_by_named, of_clause, of_row}
use Rattle.cgm_atom.specs.Cut.{cut}
use Rattle.cgm_atom.specs.Instance.{Instance, vector}

pub record LogState : Type 0 where
  -- the entry at each place, from 1; None where it is no longer live
  pub entries : List (Option Entry)
  -- the place of each best, live or not, by its ordinal from 1
  pub bests : List ℕ
  -- whether a lemma without atoms stands in the log
  pub closed : Bool

abbrev pub empty_state : LogState
empty_state = record { entries = []; bests = []; closed = false }

abbrev pub is_empty_clause : Clause → Bool
is_empty_clause c = length c.atoms == 0

-- the entry is a lemma without atoms
abbrev pub is_closing : Entry → Bool
is_closing (Best by values) = false
is_closing (Lemma by clause hints bound) = is_empty_clause clause

-- the places of the bests after one more entry, where so many stand before it
abbrev pub places_with : ℕ → List ℕ → Entry → List ℕ
places_with count places (Best by values) = places ++ suc count ∷ []
places_with count places (Lemma by clause hints bound) = places

-- the state after one more entry
abbrev pub state_with : LogState → Entry → LogState
state_with s e =
    record {
      entries = s.entries ++ Some e ∷ [];
      bests = places_with (length s.entries) s.bests e;
      closed = s.closed || is_closing e;
    }

-- the state after more entries
abbrev pub state_after : LogState → List Entry → LogState
state_after s [] = s
state_after s (e ∷ entries) = state_after (state_with s e) entries

-- the state of a log
unfoldable pub state_of : List Entry → LogState
state_of log = state_after empty_state log

-- ---- what a hint names, and what it carries

-- the item at a place that counts from 1
abbrev pub item_at : {X : Type 0} → List X → ℕ → Option X
item_at items zero = None
item_at items (suc i) = slice_get items i

-- the live entry at a place
abbrev pub live_at : LogState → ℕ → Option Entry
live_at s place = option_flatten (item_at s.entries place)

-- the values of an entry that is a best
abbrev pub entry_values : Entry → Option (List ℤ)
entry_values (Best by values) = Some values
entry_values (Lemma by clause hints bound) = None

-- the values of the live best at a place
abbrev pub values_at_place : LogState → ℕ → Option (List ℤ)
values_at_place s place = option_and_then entry_values (live_at s place)

-- the values of the live best with an ordinal
abbrev pub best_at : LogState → ℕ → Option (List ℤ)
best_at s ordinal = option_and_then (values_at_place s) (item_at s.bests ordinal)

-- the values of the last best, if any
abbrev pub last_best : LogState → Option (List ℤ)
last_best s = best_at s (length s.bests)

-- the clause of an entry that is a lemma, and its bound
abbrev pub lemma_clause : Entry → Option Clause
lemma_clause (Best by values) = None
lemma_clause (Lemma by clause hints bound) = Some clause

abbrev pub lemma_bound : Entry → ℕ
lemma_bound (Best by values) = 0
lemma_bound (Lemma by clause hints bound) = bound

-- the clause or row that a hint names, if it is there
unfoldable pub named : Instance → LogState → Hint → Option Constraint
named p s (hint.Clause n) = option_map of_clause (slice_get p.clauses n)
named p s (hint.Row n) = option_map of_row (slice_get p.rows n)
named p s (hint.Entry place) = option_map of_clause (option_and_then lemma_clause (live_at s place))
named p s (hint.Own place) = None
named p s (hint.Cut ordinal part) =
    option_map of_clause (option_and_then (λ values. slice_get (cut p.objectives (vector p values)) part) (best_at s ordinal))

-- ---- what a hint carries

-- the ordinal of the cut, or the bound of the lemma
unfoldable pub carried : LogState → Hint → ℕ
carried s (hint.Clause n) = 0
carried s (hint.Row n) = 0
carried s (hint.Entry place) = option_map_or lemma_bound (live_at s place) 0
carried s (hint.Own place) = 0
carried s (hint.Cut ordinal part) = ordinal

abbrev pub greatest_carried : LogState → List Hint → ℕ
greatest_carried s [] = 0
greatest_carried s (h ∷ hints) = max (carried s h) (greatest_carried s hints)

-- ---- narrowing by hints

abbrev pub narrowed : Instance → LogState → Bounds → Hint → Option Bounds
narrowed p s b h = left_by_named b (named p s h)

-- the hints in their order, up to conflict
abbrev pub all_narrowed : Instance → LogState → Bounds → List Hint → Option Bounds
all_narrowed p s b [] = Some b
all_narrowed p s b (h ∷ hints) = option_and_then (λ b'. all_narrowed p s b' hints) (narrowed p s b h)
