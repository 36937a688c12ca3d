-- Statements as they are written, and the tokens of each; and those of the header.
use Rattle.std.specs.Prelude.{ℕ, ℤ, pos, Bool, true, false, List, [], ◌∷◌, codes, map}
use Rattle.cgm_base.specs.Printed.{truth_word}
use Rattle.cgm_lex.specs.Lexemes.{Lexeme, colon, number, word}
use Rattle.cgm_print.specs.declared.words.ConditionWord.{ConditionWord}
use Rattle.cgm_print.specs.declared.words.ConditionWord.TheVariants as condition_words
use Rattle.cgm_print.specs.declared.words.Direction.{Direction}
use Rattle.cgm_print.specs.declared.words.Direction.TheVariants as directions
use Rattle.cgm_print.specs.declared.words.NameWord.{NameWord}
use Rattle.cgm_print.specs.declared.words.NameWord.TheVariants as name_words
use Rattle.cgm_print.specs.declared.words.PairWord.{PairWord}
use Rattle.cgm_print.specs.declared.words.PairWord.TheVariants as pair_words
use Rattle.cgm_print.specs.declared.words.Sort.{Sort}
use Rattle.cgm_print.specs.declared.words.Sort.TheVariants as sorts
use Rattle.cgm_print.specs.declared.words.WeightWord.{WeightWord}
use Rattle.cgm_print.specs.declared.words.WeightWord.TheVariants as weight_words
use Rattle.cgm_print.specs.Written.{WrittenFormula, spelled}

pub data WrittenStatement : Type 0 where
  goal : List ℕ → Bool → WrittenStatement
  named : NameWord → List ℕ → WrittenStatement
  refinement : List ℕ → List ℕ → List ℕ → List (List ℕ) → WrittenStatement
  pair : PairWord → List ℕ → List ℕ → WrittenStatement
  assertion : List ℕ → Bool → WrittenStatement
  variable : List ℕ → ℤ → ℤ → WrittenStatement
  value : List ℕ → List ℕ → ℤ → WrittenStatement
  weight : WeightWord → List ℕ → ℤ → WrittenStatement
  condition : ConditionWord → List ℕ → WrittenFormula → WrittenStatement
  requirement : WrittenFormula → WrittenStatement
  objective : Direction → List ℕ → WrittenStatement

abbrev pub name_word : NameWord → List ℕ
name_word name_words.Task = codes "task"
name_word name_words.Assume = codes "assume"
name_word name_words.Sum = codes "sum"
name_word name_words.Interest = codes "interest"

abbrev pub pair_word : PairWord → List ℕ
pair_word pair_words.Contrib = codes "contrib"
pair_word pair_words.Conflict = codes "conflict"
pair_word pair_words.Bind = codes "bind"
pair_word pair_words.Prefer = codes "prefer"

abbrev pub weight_word : WeightWord → List ℕ
weight_word weight_words.Reward = codes "reward"
weight_word weight_words.Penalty = codes "penalty"

abbrev pub condition_word : ConditionWord → List ℕ
condition_word condition_words.Positive = codes "pre+"
condition_word condition_words.Negative = codes "pre-"

abbrev pub sort_word : Sort → List ℕ
sort_word sorts.Goal = codes "goal"
sort_word (sorts.Name what) = name_word what
sort_word sorts.Refine = codes "refine"
sort_word (sorts.Pair what) = pair_word what
sort_word sorts.Assert = codes "assert"
sort_word sorts.Var = codes "var"
sort_word sorts.Value = codes "value"
sort_word (sorts.Weight what) = weight_word what
sort_word (sorts.Condition what) = condition_word what
sort_word sorts.Require = codes "require"
sort_word sorts.Objective = codes "objective"

abbrev pub sort_of : WrittenStatement → Sort
sort_of (goal x must) = sorts.Goal
sort_of (named what x) = sorts.Name what
sort_of (refinement r target first others) = sorts.Refine
sort_of (pair what one other) = sorts.Pair what
sort_of (assertion x truth) = sorts.Assert
sort_of (variable x lo hi) = sorts.Var
sort_of (value s x k) = sorts.Value
sort_of (weight what x k) = sorts.Weight what
sort_of (condition what x f) = sorts.Condition what
sort_of (requirement f) = sorts.Require
sort_of (objective direction quantity) = sorts.Objective

abbrev pub must_tokens : Bool → List Lexeme
must_tokens true = word (codes "must") ∷ []
must_tokens false = []

abbrev pub direction_word : Direction → List ℕ
direction_word directions.Min = codes "min"
direction_word directions.Max = codes "max"

-- the tokens after the statement word
abbrev pub body : WrittenStatement → List Lexeme
body (goal x must) = word x ∷ must_tokens must
body (named what x) = word x ∷ []
body (refinement r target first others) = word r ∷ word target ∷ colon ∷ word first ∷ map word others
body (pair what one other) = word one ∷ word other ∷ []
body (assertion x truth) = word x ∷ word (truth_word truth) ∷ []
body (variable x lo hi) = word x ∷ number lo ∷ number hi ∷ []
body (value s x k) = word s ∷ word x ∷ number k ∷ []
body (weight what x k) = word x ∷ number k ∷ []
body (condition what x f) = word x ∷ spelled f []
body (requirement f) = spelled f []
body (objective direction quantity) = word (direction_word direction) ∷ word quantity ∷ []

-- the tokens of a statement
abbrev pub statement_tokens : WrittenStatement → List Lexeme
statement_tokens s = word (sort_word (sort_of s)) ∷ body s

-- the first line with tokens, in this version of the text form
abbrev pub header_tokens : List Lexeme
header_tokens = word (codes "cgm") ∷ number (pos 1) ∷ []
