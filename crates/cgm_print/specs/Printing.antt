-- What a text that is being written comes to when more tokens follow.
use Rattle.std.specs.Prelude.{◌≡◌, ℕ, Bool, ◌&&◌, not, if◌then◌else◌, List, [], ◌∷◌, ◌++◌, codes, map}
use Rattle.cgm_lex.specs.Lexemes.{Lexeme, word}
use Rattle.cgm_lex.specs.Spelling.{is_closing_bracket, is_opening, spelled_line, text_of}
use Rattle.cgm_model.specs.declared.lists.Lists.{Lists}
use Rattle.cgm_model.specs.declared.lists.Statement.{Statement}
use Rattle.cgm_model.specs.declared.lists.Statement.TheVariants as statements
use Rattle.cgm_print.specs.declared.printer.Printer.{Printer}

abbrev pub space_before : Bool → Lexeme → List ℕ
space_before due token = if due && not (is_closing_bracket token) then codes " " else []

-- the bytes of tokens in the rest of a line, where a space is due before the first or not
abbrev pub rest_of_line : Bool → List Lexeme → List ℕ
rest_of_line due [] = []
rest_of_line due (token ∷ tokens) = space_before due token ++ (text_of token ++ rest_of_line (not (is_opening token)) tokens)

-- the text when these tokens follow in its last line
abbrev pub text_followed : Printer → List Lexeme → List ℕ
text_followed p tokens = p.text.items ++ rest_of_line p.is_due tokens

-- what is written of a line, whatever tokens follow
abbrev pub Writes : Printer → Printer → (List Lexeme → List Lexeme) → Type 0
Writes old new spell = (after : List Lexeme) → text_followed new after ≡ text_followed old (spell after)

-- a line that is begun, whatever tokens follow
abbrev pub Begins : Printer → Printer → (List Lexeme → List Lexeme) → Type 0
Begins old new spell = (after : List Lexeme) → text_followed new after ≡ old.text.items ++ spelled_line (spell after)

-- a line of these tokens, without its line feed
abbrev pub IsLine : Printer → Printer → List Lexeme → Type 0
IsLine old new tokens = text_followed new [] ≡ old.text.items ++ spelled_line tokens

-- words, before the tokens that follow them
abbrev pub words_before : List (List ℕ) → List Lexeme → List Lexeme
words_before [] after = after
words_before (x ∷ xs) after = word x ∷ words_before xs after

-- the statements of lists in four parts, in canonical order: what declares names
abbrev pub declaring : Lists → List Statement
declaring m =
    map (λ x. statements.Element x) m.elements
    ++ (map (λ x. statements.Refine x) m.refinements
    ++ (map (λ x. statements.Variable x) m.vars
    ++ map (λ x. statements.Sum x) m.sums))

-- what relates elements and refinements, or asserts them
abbrev pub relating : Lists → List Statement
relating m =
    map (λ x. statements.Contrib x) m.contribs
    ++ (map (λ x. statements.Conflict x) m.conflicts
    ++ (map (λ x. statements.Bind x) m.binds
    ++ map (λ x. statements.Assert x) m.asserts))

-- numbers and preferences
abbrev pub weighing : Lists → List Statement
weighing m =
    map (λ x. statements.Value x) m.values
    ++ (map (λ x. statements.Reward x) m.rewards
    ++ (map (λ x. statements.Penalty x) m.penalties
    ++ map (λ x. statements.Prefer x) m.prefers))

-- rules, interests and objectives
abbrev pub demanding : Lists → List Statement
demanding m =
    map (λ x. statements.Rule x) m.rules
    ++ (map (λ x. statements.Interest x) m.interests
    ++ map (λ x. statements.Objective x) m.objectives)
