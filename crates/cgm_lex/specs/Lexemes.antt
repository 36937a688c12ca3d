-- What the tokens of a line and of a text say, and the first fault.
use Rattle.std.specs.Prelude.{◌≡◌, ℕ, ◌+◌, ◌<◌, ◌≤◌, ◌==◌, ℤ, List, [], ◌∷◌, ◌++◌, length, map, Option, None, Some, Result, Ok, Err, All, if◌then◌else◌}
use Rattle.std.specs.List.{slice_range}
use Rattle.cgm_lex.specs.declared.token.Flaw.{Flaw}
use Rattle.cgm_lex.specs.declared.token.Flaw.TheVariants as flaws
use Rattle.cgm_lex.specs.declared.token.Kind.{Kind}
use Rattle.cgm_lex.specs.declared.token.Kind.TheVariants as kinds
use Rattle.cgm_lex.specs.declared.token.LexFault.{LexFault}
use Rattle.cgm_lex.specs.declared.token.LexFault.TheVariants as faults
use Rattle.cgm_lex.specs.declared.token.LexStop.{LexStop}
use Rattle.cgm_lex.specs.declared.token.LexStop.TheVariants as stops
use Rattle.cgm_lex.specs.declared.token.Token.{Token}
use Rattle.cgm_lex.specs.Lines.{content}
use Rattle.cgm_lex.specs.Numbers.{begins_number, number_of}
use Rattle.cgm_lex.specs.Pieces.{is_run_byte, pieces}

-- what a token says
pub data Lexeme : Type 0 where
  opening : Lexeme
  closing : Lexeme
  colon : Lexeme
  number : ℤ → Lexeme
  word : List ℕ → Lexeme

-- what a token of this kind with these bytes says
abbrev pub lexeme_with : List ℕ → Kind → Lexeme
lexeme_with bytes kinds.Open = opening
lexeme_with bytes kinds.Close = closing
lexeme_with bytes kinds.Colon = colon
lexeme_with bytes (kinds.Number k) = number k
lexeme_with bytes kinds.Word = word bytes

-- the bytes of a token of this text
abbrev pub token_bytes : List ℕ → Token → List ℕ
token_bytes text token = slice_range text token.from token.to

-- what a token of this text says
abbrev pub token_seen : List ℕ → Token → Lexeme
token_seen text token = lexeme_with (token_bytes text token) token.kind

-- the token has a byte, and lies in the text
abbrev pub IsWithinText : List ℕ → Token → Type 0
IsWithinText text token = (token.from < token.to) × (token.to ≤ length text)

abbrev pub number_or_flaw : Option ℤ → Result Lexeme Flaw
number_or_flaw None = Err flaws.BadNumber
number_or_flaw (Some k) = Ok (number k)

-- what a run says, or its flaw
abbrev pub run_lexeme : List ℕ → Result Lexeme Flaw
run_lexeme run = if begins_number run then number_or_flaw (number_of run) else Ok (word run)

-- what a piece of a line says, or its flaw
abbrev pub lexeme_of : List ℕ → Result Lexeme Flaw
lexeme_of [] = Err flaws.BadByte
lexeme_of (byte ∷ bytes) =
    if byte == 40 then Ok opening
    else if byte == 41 then Ok closing
    else if byte == 58 then Ok colon
    else if is_run_byte byte then run_lexeme (byte ∷ bytes)
    else Err flaws.BadByte

-- the first flaw from the left counts
abbrev pub flaws_joined : Result Lexeme Flaw → Result (List Lexeme) Flaw → Result (List Lexeme) Flaw
flaws_joined (Err flaw) others = Err flaw
flaws_joined (Ok lexeme) (Err flaw) = Err flaw
flaws_joined (Ok lexeme) (Ok lexemes) = Ok (lexeme ∷ lexemes)

abbrev pub all_lexemes : List (List ℕ) → Result (List Lexeme) Flaw
all_lexemes [] = Ok []
all_lexemes (piece ∷ more) = flaws_joined (lexeme_of piece) (all_lexemes more)

-- what the tokens of a line say, or the line's first flaw
abbrev pub line_lexemes : List ℕ → Result (List Lexeme) Flaw
line_lexemes line = all_lexemes (pieces (content line))

-- the fault of a line with this number and this flaw
abbrev pub fault_at : ℕ → Flaw → LexFault
fault_at line flaws.BadByte = faults.BadByte line
fault_at line flaws.BadNumber = faults.BadNumber line

-- what a token of a text says, with the number of its line
pub record Placed : Type 0 where
  pub line : ℕ
  pub lexeme : Lexeme

abbrev pub token_placed : List ℕ → Token → Placed
token_placed text token = record { line = token.line; lexeme = token_seen text token }

abbrev pub placed_at : ℕ → Lexeme → Placed
placed_at line lexeme = record { line = line; lexeme = lexeme }

-- the tokens of one line, before those of the lines after it
abbrev pub before : ℕ → Result (List Lexeme) Flaw → List Placed → List Placed
before line (Err flaw) others = []
before line (Ok lexemes) others = map (placed_at line) lexemes ++ others

-- the tokens of the lines before the first faulty one; the first of these lines has the number `line`
abbrev pub text_lexemes : ℕ → List (List ℕ) → List Placed
text_lexemes line [] = []
text_lexemes line (bytes ∷ more) = before line (line_lexemes bytes) (text_lexemes (line + 1) more)

abbrev pub fault_or : ℕ → Result (List Lexeme) Flaw → Option LexFault → Option LexFault
fault_or line (Err flaw) others = Some (fault_at line flaw)
fault_or line (Ok lexemes) others = others

-- the first fault of these lines, of which the first has the number `line`
abbrev pub first_lexical_fault : ℕ → List (List ℕ) → Option LexFault
first_lexical_fault line [] = None
first_lexical_fault line (bytes ∷ more) = fault_or line (line_lexemes bytes) (first_lexical_fault (line + 1) more)

-- from one place of the text to another the tokens stand in order and apart, and the bytes of each say what it says
abbrev pub TokensStandInOrder : List ℕ → ℕ → ℕ → List Token → Type 0
TokensStandInOrder text from to [] = from ≤ to
TokensStandInOrder text from to (token ∷ more) =
    (from ≤ token.from) × (lexeme_of (token_bytes text token) ≡ Ok (token_seen text token)) × TokensStandInOrder text token.to to more

-- the tokens `new` are `old` and then those of the line with this number, which say this
pub record AreTokensAdded (text : List ℕ) (line : ℕ) (old new : List Token) (lexemes : List Lexeme) : Type 0 where
  pub same : map (token_placed text) new ≡ map (token_placed text) old ++ map (placed_at line) lexemes
  pub within : All (IsWithinText text) old → All (IsWithinText text) new

-- this is the fault of the line with this number
abbrev pub IsFaultOf : ℕ → List ℕ → LexFault → Type 0
IsFaultOf line bytes fault =
    (flaw : Flaw) × ((line_lexemes bytes ≡ Err flaw) × (fault ≡ fault_at line flaw))

-- why the line with this number has no tokens: its first flaw, or want of memory
abbrev pub IsLineStop : ℕ → List ℕ → LexStop → Type 0
IsLineStop line bytes (stops.Fault fault) = IsFaultOf line bytes fault
IsLineStop line bytes stops.Memory = Unit {0}
