-- The lines of a text, and the bytes of a line that count.
use Rattle.std.specs.Prelude.{ℕ, ◌==◌, Bool, ◌&&◌, ◌||◌, List, [], ◌∷◌, length, if◌then◌else◌}
use Rattle.std.specs.List.{slice_split}

-- the pieces of a text between its line feeds; the last one is what follows the last line feed
abbrev pub lines : List ℕ → List (List ℕ)
lines text = slice_split (λ byte. byte == 10) text

-- whether this byte, after which the line has so many more, ends what counts of the line:
-- it begins a comment, or it is the carriage return at the line's end
abbrev pub ends_line : ℕ → ℕ → Bool
ends_line byte after = (byte == 35) || ((byte == 13) && (after == 0))

-- the bytes of a line that count
abbrev pub content : List ℕ → List ℕ
content [] = []
content (byte ∷ bytes) = if ends_line byte (length bytes) then [] else byte ∷ content bytes
