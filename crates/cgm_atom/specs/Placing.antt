-- Hints to pending lemmas, which aren't in the log yet and are numbered from 1: their places follow those of the entries that are.
use Rattle.std.specs.Prelude.{◌≡◌, ℕ, ◌+◌, ◌-◌, ◌<◌, ◌≤◌, ◌^◌, nat_lt, if◌then◌else◌, List, ◌++◌, length, map, slice_get}
use Rattle.std.specs.List.{All}
use Rattle.std.specs.Option.{option_and_then, option_map, option_map_or}
use Rattle.cgm_atom.specs.declared.entries.Entry.{Entry}
use Rattle.cgm_atom.specs.declared.entries.Entry.TheVariants.{Best, Lemma}
use Rattle.cgm_atom.specs.declared.entries.Hint.{Hint}
use Rattle.cgm_atom.specs.declared.entries.Hint.TheVariants as hint
use Rattle.cgm_atom.specs.Constraints.{of_clause}
use Rattle.cgm_atom.specs.Instance.{Instance}
use Rattle.cgm_atom.specs.LogState.{carried, lemma_bound, lemma_clause, named, state_of}
use Rattle.cgm_atom.specs.Ranges.{IsPlaced}

-- the hint, where n entries stand before the first pending lemma
abbrev pub placed : ℕ → Hint → Hint
placed n (hint.Clause number) = hint.Clause number
placed n (hint.Row number) = hint.Row number
placed n (hint.Entry place) = hint.Entry place
placed n (hint.Own i) = hint.Entry (n + i)
placed n (hint.Cut ordinal part) = hint.Cut ordinal part

abbrev pub placed_entry : ℕ → Entry → Entry
placed_entry n (Best by values) = Best by values
placed_entry n (Lemma by clause hints bound) = Lemma by clause (map (placed n) hints) bound

abbrev pub all_placed : ℕ → List Entry → List Entry
all_placed n entries = map (placed_entry n) entries

-- the way back: past the first n places stand the pending lemmas
abbrev pub pending : ℕ → Hint → Hint
pending n (hint.Clause number) = hint.Clause number
pending n (hint.Row number) = hint.Row number
pending n (hint.Entry place) = if nat_lt n place then hint.Own (place - n) else hint.Entry place
pending n (hint.Own i) = hint.Own i
pending n (hint.Cut ordinal part) = hint.Cut ordinal part

-- ---- conditions

-- the number of a pending lemma is at least 1, and its place fits 64 bits
abbrev pub CanBePlaced : ℕ → Hint → Type 0
CanBePlaced n (hint.Clause number) = Unit {0}
CanBePlaced n (hint.Row number) = Unit {0}
CanBePlaced n (hint.Entry place) = Unit {0}
CanBePlaced n (hint.Own i) = (1 ≤ i) × (n + i < 2 ^ 64)
CanBePlaced n (hint.Cut ordinal part) = Unit {0}

abbrev pub HintsCanBePlaced : ℕ → Entry → Type 0
HintsCanBePlaced n (Best by values) = Unit {0}
HintsCanBePlaced n (Lemma by clause hints bound) = All (CanBePlaced n) hints

-- the number that a place past the first n gets fits 32 bits
abbrev pub CanBePending : ℕ → Hint → Type 0
CanBePending n (hint.Clause number) = Unit {0}
CanBePending n (hint.Row number) = Unit {0}
CanBePending n (hint.Entry place) = place - n < 2 ^ 32
CanBePending n (hint.Own i) = Unit {0}
CanBePending n (hint.Cut ordinal part) = Unit {0}

-- of entries the hint names one of the first n, of pending lemmas one from 1 on
abbrev pub IsBefore : ℕ → Hint → Type 0
IsBefore n (hint.Clause number) = Unit {0}
IsBefore n (hint.Row number) = Unit {0}
IsBefore n (hint.Entry place) = place ≤ n
IsBefore n (hint.Own i) = 1 ≤ i
IsBefore n (hint.Cut ordinal part) = Unit {0}

-- ---- laws

abbrev pub PlacedComeBack : Type 0
PlacedComeBack = (n : ℕ) (h : Hint) → IsBefore n h → pending n (placed n h) ≡ h

abbrev pub PlacedStay : Type 0
PlacedStay = (n : ℕ) (h : Hint) → IsPlaced h → placed n h ≡ h

abbrev pub PlacedArePlaced : Type 0
PlacedArePlaced = (n : ℕ) (h : Hint) → IsPlaced (placed n h)

-- in the log that is followed by the pending lemmas, each placed
abbrev pub PlacedNamePending : Type 0
PlacedNamePending =
    (p : Instance) (log lemmas : List Entry) (i : ℕ)
    → named p (state_of (log ++ all_placed (length log) lemmas)) (placed (length log) (hint.Own (i + 1)))
    ≡ option_map of_clause (option_and_then lemma_clause (slice_get lemmas i))

abbrev pub PlacedCarryPending : Type 0
PlacedCarryPending =
    (log lemmas : List Entry) (i : ℕ)
    → carried (state_of (log ++ all_placed (length log) lemmas)) (placed (length log) (hint.Own (i + 1)))
    ≡ option_map_or lemma_bound (slice_get lemmas i) 0
