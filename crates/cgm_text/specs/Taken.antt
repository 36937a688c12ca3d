-- The first token of a line's tokens taken off.
use Rattle.std.specs.Prelude.{◌≡◌, ◌≢◌, ℕ, ◌<◌, List, ◌∷◌, length}
use Rattle.cgm_lex.specs.Lexemes.{Lexeme, opening, closing, colon}
use Rattle.cgm_lex.specs.declared.token.Token.{Token}
use Rattle.cgm_text.specs.declared.take.Mark.{Mark}
use Rattle.cgm_text.specs.declared.take.Mark.TheVariants as marks
use Rattle.cgm_text.specs.Trees.{seen_all}

abbrev pub mark_lexeme : Mark → Lexeme
mark_lexeme marks.Open = opening
mark_lexeme marks.Close = closing
mark_lexeme marks.Colon = colon

-- in the line the first of the tokens says this, and the rest are those after it
pub record IsBehind (line : List ℕ) (first : Lexeme) (tokens rest : List Token) : Type 0 where
  pub found : seen_all line tokens ≡ first ∷ seen_all line rest
  pub shorter : length rest < length tokens

-- the same in each line
pub record IsBehindInEach (first : List ℕ → Lexeme) (tokens rest : List Token) : Type 0 where
  pub found : (line : List ℕ) → seen_all line tokens ≡ first line ∷ seen_all line rest
  pub shorter : length rest < length tokens

-- in the line the first of the tokens doesn't say this
abbrev pub IsNotFirst : List ℕ → Lexeme → List Token → Type 0
IsNotFirst line first tokens = (after : List Lexeme) → seen_all line tokens ≢ first ∷ after
