-- Formulas as they are written: names as words, numbers as they stand, and the tokens that spell them.
use Rattle.std.specs.Prelude.{ℕ, ℤ, List, [], ◌∷◌, codes}
use Rattle.cgm_lex.specs.Lexemes.{Lexeme, opening, closing, number, word}
use Rattle.cgm_print.specs.declared.words.Joint.{Joint}
use Rattle.cgm_print.specs.declared.words.Joint.TheVariants as joints
use Rattle.cgm_print.specs.declared.words.Pairing.{Pairing}
use Rattle.cgm_print.specs.declared.words.Pairing.TheVariants as pairings
use Rattle.cgm_print.specs.declared.words.Comparison.{Comparison}
use Rattle.cgm_print.specs.declared.words.Comparison.TheVariants as comparisons

-- a name, or a number times a name
pub data WrittenTerm : Type 0 where
  plain : List ℕ → WrittenTerm
  scaled : ℤ → List ℕ → WrittenTerm

-- a term, or a total of one or more terms
pub data WrittenLinear : Type 0 where
  single : WrittenTerm → WrittenLinear
  total : WrittenTerm → List WrittenTerm → WrittenLinear

mutual
  pub data WrittenFormula : Type 0 where
    name : List ℕ → WrittenFormula
    negation : WrittenFormula → WrittenFormula
    joined : Joint → WrittenFormula → WrittenFormulas → WrittenFormula
    paired : Pairing → WrittenFormula → WrittenFormula → WrittenFormula
    compared : Comparison → WrittenLinear → ℤ → WrittenFormula

  pub data WrittenFormulas : Type 0 where
    no_formulas : WrittenFormulas
    more_formulas : WrittenFormula → WrittenFormulas → WrittenFormulas

abbrev pub formulas_of : List WrittenFormula → WrittenFormulas
formulas_of [] = no_formulas
formulas_of (part ∷ parts) = more_formulas part (formulas_of parts)

abbrev pub joint_word : Joint → List ℕ
joint_word joints.And = codes "and"
joint_word joints.Or = codes "or"

abbrev pub pairing_word : Pairing → List ℕ
pairing_word pairings.Implies = codes "=>"
pairing_word pairings.Iff = codes "iff"

abbrev pub comparison_word : Comparison → List ℕ
comparison_word comparisons.AtMost = codes "<="
comparison_word comparisons.AtLeast = codes ">="
comparison_word comparisons.Equal = codes "="

-- the tokens of a term, before those that follow it
abbrev pub spelled_term : WrittenTerm → List Lexeme → List Lexeme
spelled_term (plain x) after = word x ∷ after
spelled_term (scaled k x) after = opening ∷ word (codes "*") ∷ number k ∷ word x ∷ closing ∷ after

abbrev pub spelled_terms : List WrittenTerm → List Lexeme → List Lexeme
spelled_terms [] after = after
spelled_terms (term ∷ terms) after = spelled_term term (spelled_terms terms after)

abbrev pub spelled_linear : WrittenLinear → List Lexeme → List Lexeme
spelled_linear (single term) after = spelled_term term after
spelled_linear (total term terms) after = opening ∷ word (codes "+") ∷ spelled_term term (spelled_terms terms (closing ∷ after))

abbrev mutual
  -- the tokens of a formula, before those that follow it
  pub spelled : WrittenFormula → List Lexeme → List Lexeme
  spelled (name x) after = word x ∷ after
  spelled (negation part) after = opening ∷ word (codes "not") ∷ spelled part (closing ∷ after)
  spelled (joined joint part parts) after = opening ∷ word (joint_word joint) ∷ spelled part (spelled_each parts (closing ∷ after))
  spelled (paired pairing one other) after = opening ∷ word (pairing_word pairing) ∷ spelled one (spelled other (closing ∷ after))
  spelled (compared comparison linear k) after = opening ∷ word (comparison_word comparison) ∷ spelled_linear linear (number k ∷ closing ∷ after)

  pub spelled_each : WrittenFormulas → List Lexeme → List Lexeme
  spelled_each no_formulas after = after
  spelled_each (more_formulas part parts) after = spelled part (spelled_each parts after)
