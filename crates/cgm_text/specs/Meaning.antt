-- The statement that a written statement makes after lists, whose names it uses.
use Rattle.std.specs.Prelude.{ℕ, ℤ, pos, Bool, true, false, List, [], ◌∷◌, map, Option, None, Some}
use Rattle.cgm_formula.specs.declared.formula.Formula.{Formula}
use Rattle.cgm_formula.specs.declared.formula.Formula.TheVariants as formulas
use Rattle.cgm_formula.specs.declared.formula.Linear.{Linear}
use Rattle.cgm_formula.specs.declared.formula.Number.{Number}
use Rattle.cgm_formula.specs.declared.formula.Number.TheVariants as numbers
use Rattle.cgm_formula.specs.declared.formula.Truth.{Truth}
use Rattle.cgm_formula.specs.declared.formula.Truth.TheVariants as truths
use Rattle.cgm_model.specs.declared.lists.Edge.{Edge}
use Rattle.cgm_model.specs.declared.lists.ElementKind.{ElementKind}
use Rattle.cgm_model.specs.declared.lists.ElementKind.TheVariants as element_kinds
use Rattle.cgm_model.specs.declared.lists.Lists.{Lists}
use Rattle.cgm_model.specs.declared.lists.Quantity.{Quantity}
use Rattle.cgm_model.specs.declared.lists.Quantity.TheVariants as quantities
use Rattle.cgm_model.specs.declared.lists.Rule.{Rule}
use Rattle.cgm_model.specs.declared.lists.Rule.TheVariants as rules_of
use Rattle.cgm_model.specs.declared.lists.Statement.{Statement}
use Rattle.cgm_model.specs.declared.lists.Statement.TheVariants as statements
use Rattle.cgm_model.specs.declared.lists.Thing.{Thing}
use Rattle.cgm_model.specs.declared.lists.Thing.TheVariants as things
use Rattle.cgm_model.specs.declared.lists.Weighing.{Weighing}
use Rattle.cgm_model.specs.Named.{thing_named}
use Rattle.cgm_print.specs.declared.words.Comparison.{Comparison}
use Rattle.cgm_print.specs.declared.words.Comparison.TheVariants as comparisons
use Rattle.cgm_print.specs.declared.words.ConditionWord.{ConditionWord}
use Rattle.cgm_print.specs.declared.words.ConditionWord.TheVariants as condition_words
use Rattle.cgm_print.specs.declared.words.Direction.{Direction}
use Rattle.cgm_print.specs.declared.words.Direction.TheVariants as directions
use Rattle.cgm_print.specs.declared.words.Joint.{Joint}
use Rattle.cgm_print.specs.declared.words.Joint.TheVariants as joints
use Rattle.cgm_print.specs.declared.words.NameWord.{NameWord}
use Rattle.cgm_print.specs.declared.words.NameWord.TheVariants as name_words
use Rattle.cgm_print.specs.declared.words.PairWord.{PairWord}
use Rattle.cgm_print.specs.declared.words.PairWord.TheVariants as pair_words
use Rattle.cgm_print.specs.declared.words.Pairing.{Pairing}
use Rattle.cgm_print.specs.declared.words.Pairing.TheVariants as pairings
use Rattle.cgm_print.specs.declared.words.WeightWord.{WeightWord}
use Rattle.cgm_print.specs.declared.words.WeightWord.TheVariants as weight_words
use Rattle.cgm_print.specs.Statements.{WrittenStatement, goal, named, refinement, pair, assertion, variable, value, weight, condition, requirement, objective}
use Rattle.cgm_print.specs.Written.{WrittenTerm, plain, scaled, WrittenLinear, single, total, WrittenFormula, name, negation, joined, paired, compared, WrittenFormulas, no_formulas, more_formulas}
use Rattle.cgm_text.specs.Parsed.{built_in}

-- the number of an element; what is none reads as 0, here and below
abbrev pub element_of : Option Thing → ℕ
element_of (Some (things.Element k)) = k
element_of (Some (things.Refinement k)) = 0
element_of (Some (things.Var k)) = 0
element_of (Some (things.Sum k)) = 0
element_of None = 0

abbrev pub refinement_of : Option Thing → ℕ
refinement_of (Some (things.Element k)) = 0
refinement_of (Some (things.Refinement k)) = k
refinement_of (Some (things.Var k)) = 0
refinement_of (Some (things.Sum k)) = 0
refinement_of None = 0

abbrev pub truth_of : Option Thing → Truth
truth_of (Some (things.Element k)) = truths.Element k
truth_of (Some (things.Refinement k)) = truths.Refinement k
truth_of (Some (things.Var k)) = truths.Element 0
truth_of (Some (things.Sum k)) = truths.Element 0
truth_of None = truths.Element 0

abbrev pub statement_of_number : Option Thing → Number
statement_of_number (Some (things.Element k)) = numbers.Var 0
statement_of_number (Some (things.Refinement k)) = numbers.Var 0
statement_of_number (Some (things.Var k)) = numbers.Var k
statement_of_number (Some (things.Sum k)) = numbers.Sum k
statement_of_number None = numbers.Var 0

abbrev pub sum_of : Option Thing → ℕ
sum_of (Some (things.Element k)) = 0
sum_of (Some (things.Refinement k)) = 0
sum_of (Some (things.Var k)) = 0
sum_of (Some (things.Sum k)) = k
sum_of None = 0

abbrev pub element_named : Lists → List ℕ → ℕ
element_named m x = element_of (thing_named m x)

abbrev pub refinement_named : Lists → List ℕ → ℕ
refinement_named m x = refinement_of (thing_named m x)

abbrev pub truth_named : Lists → List ℕ → Truth
truth_named m x = truth_of (thing_named m x)

abbrev pub number_named : Lists → List ℕ → Number
number_named m x = statement_of_number (thing_named m x)

abbrev pub sum_named : Lists → List ℕ → ℕ
sum_named m x = sum_of (thing_named m x)

-- a name alone has the coefficient 1
abbrev pub term_of : Lists → WrittenTerm → ℤ × Number
term_of m (plain x) = (pos 1, number_named m x)
term_of m (scaled k x) = (k, number_named m x)

abbrev pub linear_with : List (ℤ × Number) → Linear
linear_with terms = record { terms = terms }

abbrev pub linear_of : Lists → WrittenLinear → Linear
linear_of m (single term) = linear_with (term_of m term ∷ [])
linear_of m (total term terms) = linear_with (term_of m term ∷ map (term_of m) terms)

abbrev pub joined_as : Joint → List Formula → Formula
joined_as joints.And parts = formulas.And parts
joined_as joints.Or parts = formulas.Or parts

abbrev pub paired_as : Pairing → Formula → Formula → Formula
paired_as pairings.Implies one other = formulas.Implies one other
paired_as pairings.Iff one other = formulas.Iff one other

abbrev pub compared_as : Comparison → Linear → ℤ → Formula
compared_as comparisons.AtMost linear k = formulas.AtMost linear k
compared_as comparisons.AtLeast linear k = formulas.AtLeast linear k
compared_as comparisons.Equal linear k = formulas.Equal linear k

abbrev mutual
  pub formula_of : Lists → WrittenFormula → Formula
  formula_of m (name x) = formulas.Name (truth_named m x)
  formula_of m (negation part) = formulas.Not (formula_of m part)
  formula_of m (joined joint part parts) = joined_as joint (formula_of m part ∷ each_formula_of m parts)
  formula_of m (paired pairing one other) = paired_as pairing (formula_of m one) (formula_of m other)
  formula_of m (compared comparison linear k) = compared_as comparison (linear_of m linear) k

  pub each_formula_of : Lists → WrittenFormulas → List Formula
  each_formula_of m no_formulas = []
  each_formula_of m (more_formulas part parts) = formula_of m part ∷ each_formula_of m parts

abbrev pub element_with : List ℕ → ElementKind → Bool → Statement
element_with x kind must = statements.Element (record { name = x; kind = kind; must = must })

abbrev pub edge_with : ℕ → ℕ → Edge
edge_with from to = record { from = from; to = to }

-- what a statement with this word and one name says
abbrev pub named_of : Lists → NameWord → List ℕ → Statement
named_of m name_words.Task x = element_with x element_kinds.Task false
named_of m name_words.Assume x = element_with x element_kinds.Assume false
named_of m name_words.Sum x = statements.Sum (record { name = x })
named_of m name_words.Interest x = statements.Interest (element_named m x)

-- what a statement with this word and two names says
abbrev pub pair_of : Lists → PairWord → List ℕ → List ℕ → Statement
pair_of m pair_words.Contrib one other = statements.Contrib (edge_with (element_named m one) (element_named m other))
pair_of m pair_words.Conflict one other = statements.Conflict (edge_with (element_named m one) (element_named m other))
pair_of m pair_words.Bind one other = statements.Bind (edge_with (refinement_named m one) (refinement_named m other))
pair_of m pair_words.Prefer one other =
    statements.Prefer (record { better = truth_named m one; worse = truth_named m other })

-- what a statement with this word, an element and a number says
abbrev pub statement_of_weight : WeightWord → Weighing → Statement
statement_of_weight weight_words.Reward w = statements.Reward w
statement_of_weight weight_words.Penalty w = statements.Penalty w

abbrev pub condition_of : ConditionWord → Truth → Formula → Rule
condition_of condition_words.Positive x f = rules_of.Positive x f
condition_of condition_words.Negative x f = rules_of.Negative x f

abbrev pub is_max : Direction → Bool
is_max directions.Min = false
is_max directions.Max = true

abbrev pub quantity_of : Option Quantity → Number → Quantity
quantity_of (Some quantity) x = quantity
quantity_of None (numbers.Var k) = quantities.Var k
quantity_of None (numbers.Sum k) = quantities.Sum k

-- a built-in quantity, or else the variable or sum with this name
abbrev pub quantity_named : Lists → List ℕ → Quantity
quantity_named m x = quantity_of (built_in x) (number_named m x)

-- the statement that a written one makes
abbrev pub statement_of : Lists → WrittenStatement → Statement
statement_of m (goal x must) = element_with x element_kinds.Goal must
statement_of m (named what x) = named_of m what x
statement_of m (refinement r target first others) =
    statements.Refine (record { name = r; target = element_named m target; sources = map (element_named m) (first ∷ others) })
statement_of m (pair what one other) = pair_of m what one other
statement_of m (assertion x truth) = statements.Assert (record { element = element_named m x; truth = truth })
statement_of m (variable x lo hi) = statements.Variable (record { name = x; lo = lo; hi = hi })
statement_of m (value s x k) = statements.Value (record { sum = sum_named m s; of = truth_named m x; k = k })
statement_of m (weight what x k) = statement_of_weight what (record { element = element_named m x; k = k })
statement_of m (condition what x f) = statements.Rule (condition_of what (truth_named m x) (formula_of m f))
statement_of m (requirement f) = statements.Rule (rules_of.Require (formula_of m f))
statement_of m (objective direction x) =
    statements.Objective (record { max = is_max direction; of = quantity_named m x })

-- the words of a written statement that stand where a name may be declared
abbrev pub declared_words : WrittenStatement → List (List ℕ)
declared_words (goal x must) = x ∷ []
declared_words (named what x) = x ∷ []
declared_words (refinement r target first others) = r ∷ []
declared_words (pair what one other) = []
declared_words (assertion x truth) = []
declared_words (variable x lo hi) = x ∷ []
declared_words (value s x k) = []
declared_words (weight what x k) = []
declared_words (condition what x f) = []
declared_words (requirement f) = []
declared_words (objective direction quantity) = []
