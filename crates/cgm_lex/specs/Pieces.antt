-- The pieces of a line: its longest runs, and each other byte that is no blank by itself.
use Rattle.std.specs.Prelude.{ℕ, ◌==◌, Bool, ◌||◌, List, [], ◌∷◌, ◌++◌, codes, if◌then◌else◌}
use Rattle.std.specs.List.{list_any}
use Rattle.std.specs.Char.{is_ascii_alphanumeric}

abbrev pub is_mark : ℕ → Bool
is_mark byte = list_any (λ mark. mark == byte) (codes "_-.+*<>=")

-- whether a run may have this byte
abbrev pub is_run_byte : ℕ → Bool
is_run_byte byte = is_ascii_alphanumeric byte || is_mark byte

-- a space or a tab
abbrev pub is_blank : ℕ → Bool
is_blank byte = (byte == 32) || (byte == 9)

-- the pieces where the run so far ends before these
abbrev pub closed : List ℕ → List (List ℕ) → List (List ℕ)
closed [] others = others
closed (byte ∷ bytes) others = (byte ∷ bytes) ∷ others

-- the pieces of the run so far and of the bytes that come after it
abbrev pub pieces_cut : List ℕ → List ℕ → List (List ℕ)
pieces_cut run [] = closed run []
pieces_cut run (byte ∷ bytes) =
    if is_run_byte byte then pieces_cut (run ++ byte ∷ []) bytes
    else closed run (if is_blank byte then pieces_cut [] bytes else (byte ∷ []) ∷ pieces_cut [] bytes)

abbrev pub pieces : List ℕ → List (List ℕ)
pieces bytes = pieces_cut [] bytes
