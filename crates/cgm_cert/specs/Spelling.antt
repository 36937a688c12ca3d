-- The one spelling of an entry, and the text of a list of entries.
use Rattle.std.specs.Prelude.{ℕ, ◌==◌, List, [], ◌∷◌, ◌++◌, map, drop, codes, decimal}
use Rattle.std.specs.Fmt.{signed_decimal}
use Rattle.std.specs.List.{slice_split, join_with_byte}
use Rattle.cgm_atom.specs.declared.entries.Entry.{Entry}
use Rattle.cgm_atom.specs.declared.entries.Entry.TheVariants.{Best, Lemma}
use Rattle.cgm_atom.specs.declared.entries.Hint.{Hint}
use Rattle.cgm_atom.specs.declared.entries.Hint.TheVariants as hint
use Rattle.cgm_atom.specs.AtomWords.{atom_word}

-- as `c3`, `r0`, `e12` or `b2.0`; a lemma that has no place yet has no spelling
abbrev pub hint_word : Hint → List ℕ
hint_word (hint.Clause n) = codes "c" ++ decimal n
hint_word (hint.Row n) = codes "r" ++ decimal n
hint_word (hint.Entry place) = codes "e" ++ decimal place
hint_word (hint.Own place) = []
hint_word (hint.Cut best part) = codes "b" ++ (decimal best ++ (codes "." ++ decimal part))

-- the words of an entry's line
abbrev pub entry_words : Entry → List (List ℕ)
entry_words (Best by values) = codes "best" ∷ decimal by ∷ map signed_decimal values
entry_words (Lemma by clause hints bound) =
    codes "lemma" ∷ decimal by ∷ decimal bound ∷ (map atom_word clause.atoms ++ codes ":" ∷ map hint_word hints)

-- these words, with one space between each two
abbrev pub entry_line : Entry → List ℕ
entry_line e = join_with_byte 32 (entry_words e)

-- the lines of entries, each with its line feed
abbrev pub lines_of : List Entry → List ℕ
lines_of [] = []
lines_of (e ∷ entries) = entry_line e ++ 10 ∷ lines_of entries

abbrev pub header : List ℕ
header = codes "cgm-cert 1"

-- the header and the lines of the entries
unfoldable pub cert_text : List Entry → List ℕ
cert_text entries = header ++ 10 ∷ lines_of entries

-- the pieces of a text between its line feeds; the last one is what follows the last line feed
abbrev pub lines : List ℕ → List (List ℕ)
lines text = slice_split (λ byte. byte == 10) text

-- the pieces of a line between its spaces
abbrev pub words : List ℕ → List (List ℕ)
words line = slice_split (λ byte. byte == 32) line

-- the words after the first one
abbrev pub further_words : List ℕ → List (List ℕ)
further_words line = drop 1 (words line)
