-- How tokens are written in a line: one space between them, but none after an opening bracket and none before a closing one.
use Rattle.std.specs.Prelude.{◌≡◌, ℕ, ◌<◌, Bool, true, false, ◌||◌, IsTrue, List, [], ◌∷◌, ◌++◌, codes, FitsSigned, if◌then◌else◌, length}
use Rattle.std.specs.List.{list_all}
use Rattle.std.specs.Fmt.{signed_decimal}
use Rattle.std.specs.Int.{w64}
use Rattle.cgm_lex.specs.Lexemes.{Lexeme, opening, closing, colon, number, word}
use Rattle.cgm_lex.specs.Numbers.{begins_number}
use Rattle.cgm_lex.specs.Pieces.{is_run_byte}

-- a number has 64 bits, and a word is a run that begins as no number
abbrev pub IsPlain : Lexeme → Type 0
IsPlain opening = Unit {0}
IsPlain closing = Unit {0}
IsPlain colon = Unit {0}
IsPlain (number k) = FitsSigned w64 k
IsPlain (word bytes) = (0 < length bytes) × (IsTrue (list_all is_run_byte bytes) × (begins_number bytes ≡ false))

abbrev pub text_of : Lexeme → List ℕ
text_of opening = codes "("
text_of closing = codes ")"
text_of colon = codes ":"
text_of (number k) = signed_decimal k
text_of (word bytes) = bytes

abbrev pub is_opening : Lexeme → Bool
is_opening opening = true
is_opening _ = false

abbrev pub is_closing_bracket : Lexeme → Bool
is_closing_bracket closing = true
is_closing_bracket _ = false

-- what stands between two tokens
abbrev pub gap : Lexeme → Lexeme → List ℕ
gap one next = if is_opening one || is_closing_bracket next then [] else codes " "

-- the line of these tokens, without its line feed
abbrev pub spelled_line : List Lexeme → List ℕ
spelled_line [] = []
spelled_line (one ∷ []) = text_of one
spelled_line (one ∷ next ∷ more) = text_of one ++ (gap one next ++ spelled_line (next ∷ more))
