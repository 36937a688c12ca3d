-- The index of a log: how many entries it has, the places of its bests, and whether it is closed.
use Rattle.std.specs.Prelude.{◌≡◌, Bool, false, ◌||◌, ℕ, ◌+◌, List, [], ◌∷◌, map, length, Some}
use Rattle.cgm_atom.specs.declared.entries.Entry.{Entry}
use Rattle.cgm_atom.specs.LogState.{LogState, is_closing, places_with, state_of}

pub record Index : Type 0 where
  pub entries : ℕ
  -- the place of each best, from 1
  pub bests : List ℕ
  pub closed : Bool

abbrev pub empty_index : Index
empty_index = record { entries = 0; bests = []; closed = false }

-- the index after one more entry
abbrev pub index_with : Index → Entry → Index
index_with i e =
    record {
      entries = i.entries + 1;
      bests = places_with i.entries i.bests e;
      closed = i.closed || is_closing e;
    }

-- the index after more entries
abbrev pub index_after : Index → List Entry → Index
index_after i [] = i
index_after i (e ∷ entries) = index_after (index_with i e) entries

-- the index of a state
abbrev pub index_of : LogState → Index
index_of s = record { entries = length s.entries; bests = s.bests; closed = s.closed }

abbrev pub IsLogIndexOf : Index → List Entry → Type 0
IsLogIndexOf index log = index ≡ index_of (state_of log)

-- the state that a log and an index tell: each entry is live
abbrev pub indexed_state : List Entry → Index → LogState
indexed_state log index = record { entries = map Some log; bests = index.bests; closed = index.closed }
