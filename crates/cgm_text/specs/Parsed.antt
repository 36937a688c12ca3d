-- What a parsed statement stands for in its line, and tokens that begin no statement and no part of one.
use Rattle.std.specs.Prelude.{◌≡◌, ◌≢◌, ℕ, if◌then◌else◌, List, ◌∷◌, codes, map, Option, None, Some}
use Rattle.std.specs.Str.{bytes_eq}
use Rattle.cgm_lex.specs.Lexemes.{Lexeme, closing, word}
use Rattle.cgm_model.specs.declared.lists.Quantity.{Quantity}
use Rattle.cgm_model.specs.declared.lists.Quantity.TheVariants as quantities
use Rattle.cgm_model.specs.QuantityWords.{quantity_word}
use Rattle.cgm_print.specs.declared.words.Sort.{Sort}
use Rattle.cgm_print.specs.Statements.{WrittenStatement, goal, named, refinement, pair, assertion, variable, value, weight, condition, requirement, objective, sort_word, sort_of, body}
use Rattle.cgm_print.specs.Written.{WrittenTerm, WrittenLinear, WrittenFormula, WrittenFormulas, joint_word, pairing_word, comparison_word, spelled_term, spelled_linear, spelled, spelled_each}
use Rattle.cgm_text.specs.declared.written.Connective.{Connective}
use Rattle.cgm_text.specs.declared.written.Connective.TheVariants as connectives
use Rattle.cgm_text.specs.declared.written.Written.{Written}
use Rattle.cgm_text.specs.declared.written.Written.TheVariants as statements
use Rattle.cgm_text.specs.Trees.{formula_in, word_in}

-- ---- words

abbrev pub connective_word : Connective → List ℕ
connective_word connectives.Not = codes "not"
connective_word (connectives.Join joint) = joint_word joint
connective_word (connectives.Pair pairing) = pairing_word pairing
connective_word (connectives.Compare comparison) = comparison_word comparison

-- the word is none of those that stand alone
pub record IsNoSingle (w : List ℕ) : Type 0 where
  pub goal : w ≢ codes "goal"
  pub refine : w ≢ codes "refine"
  pub assert : w ≢ codes "assert"
  pub var : w ≢ codes "var"
  pub value : w ≢ codes "value"
  pub require : w ≢ codes "require"
  pub objective : w ≢ codes "objective"

-- the built-in quantity with this word
abbrev pub built_in : List ℕ → Option Quantity
built_in x =
    if bytes_eq (quantity_word quantities.Weight) x then Some quantities.Weight
    else if bytes_eq (quantity_word quantities.UnsatPrefs) x then Some quantities.UnsatPrefs
    else if bytes_eq (quantity_word quantities.UnsatReqs) x then Some quantities.UnsatReqs
    else if bytes_eq (quantity_word quantities.SatTasks) x then Some quantities.SatTasks
    else if bytes_eq (quantity_word quantities.Familiarity) x then Some quantities.Familiarity
    else if bytes_eq (quantity_word quantities.Effort) x then Some quantities.Effort
    else None

-- ---- statements

-- what a parsed statement stands for in its line
abbrev pub statement_in : List ℕ → Written → WrittenStatement
statement_in line (statements.Goal x must) = goal (word_in line x) must
statement_in line (statements.Name what x) = named what (word_in line x)
statement_in line (statements.Refine x target first others) =
    refinement (word_in line x) (word_in line target) (word_in line first) (map (word_in line) others)
statement_in line (statements.Pair what one other) = pair what (word_in line one) (word_in line other)
statement_in line (statements.Assert x truth) = assertion (word_in line x) truth
statement_in line (statements.Var x lo hi) = variable (word_in line x) lo hi
statement_in line (statements.Value s x k) = value (word_in line s) (word_in line x) k
statement_in line (statements.Weight what x k) = weight what (word_in line x) k
statement_in line (statements.Condition what x f) = condition what (word_in line x) (formula_in line f)
statement_in line (statements.Require f) = requirement (formula_in line f)
statement_in line (statements.Objective direction quantity) = objective direction (word_in line quantity)

-- these tokens are what follows the word of this sort in that statement
pub record IsBody (line : List ℕ) (tokens : List Lexeme) (sort : Sort) (s : Written) : Type 0 where
  pub sort_is : sort_of (statement_in line s) ≡ sort
  pub spelled_is : tokens ≡ body (statement_in line s)

-- these tokens follow the word of this sort in no statement
abbrev pub IsNoBody : List Lexeme → Sort → Type 0
IsNoBody tokens sort = (s : WrittenStatement) → sort_of s ≡ sort → tokens ≢ body s

-- the first token is no statement word
abbrev pub BeginsNoStatement : List Lexeme → Type 0
BeginsNoStatement tokens = (sort : Sort) (after : List Lexeme) → tokens ≢ word (sort_word sort) ∷ after

-- ---- parts of statements

-- the tokens begin with no term, no linear expression, no formula
abbrev pub BeginsNoTerm : List Lexeme → Type 0
BeginsNoTerm tokens = (term : WrittenTerm) (after : List Lexeme) → tokens ≢ spelled_term term after

abbrev pub BeginsNoLinear : List Lexeme → Type 0
BeginsNoLinear tokens = (linear : WrittenLinear) (after : List Lexeme) → tokens ≢ spelled_linear linear after

abbrev pub BeginsNoFormula : List Lexeme → Type 0
BeginsNoFormula tokens = (formula : WrittenFormula) (after : List Lexeme) → tokens ≢ spelled formula after

-- the tokens don't begin with formulas up to a closing bracket
abbrev pub BeginsNoParts : List Lexeme → Type 0
BeginsNoParts tokens = (parts : WrittenFormulas) (after : List Lexeme) → tokens ≢ spelled_each parts (closing ∷ after)
