-- The canonical text of a model: the header, then the line of each statement, group by group in the order of the model's lists.
use Rattle.std.specs.Prelude.{ℕ, ℤ, pos, Bool, true, false, if◌then◌else◌, List, [], ◌∷◌, ◌++◌, map, slice_index_or}
use Rattle.std.specs.Ordering.{int_eq}
use Rattle.cgm_formula.specs.declared.formula.Formula.{Formula}
use Rattle.cgm_formula.specs.declared.formula.Formula.TheFolds.{fold-Formula}
use Rattle.cgm_formula.specs.declared.formula.Formula.TheOpen.{Formula-F}
use Rattle.cgm_formula.specs.declared.formula.Number.{Number}
use Rattle.cgm_formula.specs.declared.formula.Number.TheVariants as numbers
use Rattle.cgm_formula.specs.declared.formula.Truth.{Truth}
use Rattle.cgm_formula.specs.declared.formula.Truth.TheVariants as truths
use Rattle.cgm_lex.specs.Lexemes.{Lexeme}
use Rattle.cgm_lex.specs.Spelling.{spelled_line}
use Rattle.cgm_model.specs.declared.lists.ElementKind.{ElementKind}
use Rattle.cgm_model.specs.declared.lists.ElementKind.TheVariants as element_kinds
use Rattle.cgm_model.specs.declared.lists.Lists.{Lists}
use Rattle.cgm_model.specs.declared.lists.Quantity.{Quantity}
use Rattle.cgm_model.specs.declared.lists.Quantity.TheVariants as quantities
use Rattle.cgm_model.specs.declared.lists.Rule.{Rule}
use Rattle.cgm_model.specs.declared.lists.Rule.TheVariants as rules_of
use Rattle.cgm_model.specs.declared.lists.Statement.{Statement}
use Rattle.cgm_model.specs.declared.lists.Statement.TheVariants as statements
use Rattle.cgm_model.specs.Canonical.{statements_of}
use Rattle.cgm_model.specs.Named.{element_names, refinement_names, sum_names, variable_names}
use Rattle.cgm_model.specs.QuantityWords.{quantity_word}
use Rattle.cgm_print.specs.declared.words.Comparison.TheVariants as comparisons
use Rattle.cgm_print.specs.declared.words.ConditionWord.TheVariants as condition_words
use Rattle.cgm_print.specs.declared.words.Direction.{Direction}
use Rattle.cgm_print.specs.declared.words.Direction.TheVariants as directions
use Rattle.cgm_print.specs.declared.words.Joint.{Joint}
use Rattle.cgm_print.specs.declared.words.Joint.TheVariants as joints
use Rattle.cgm_print.specs.declared.words.NameWord.TheVariants as name_words
use Rattle.cgm_print.specs.declared.words.PairWord.TheVariants as pair_words
use Rattle.cgm_print.specs.declared.words.Pairing.TheVariants as pairings
use Rattle.cgm_print.specs.declared.words.WeightWord.TheVariants as weight_words
use Rattle.cgm_print.specs.Statements.{WrittenStatement, goal, named, refinement, pair, assertion, variable, value, weight, condition, requirement, objective, statement_tokens, header_tokens}
use Rattle.cgm_print.specs.Written.{WrittenTerm, plain, scaled, WrittenLinear, single, total, WrittenFormula, name, negation, joined, paired, compared, formulas_of}

-- the name at a place; what isn't there has an empty one, here and below
abbrev pub name_at : List (List ℕ) → ℕ → List ℕ
name_at names k = slice_index_or names k []

abbrev pub element_name : Lists → ℕ → List ℕ
element_name m k = name_at (element_names m) k

abbrev pub refinement_name : Lists → ℕ → List ℕ
refinement_name m k = name_at (refinement_names m) k

abbrev pub variable_name : Lists → ℕ → List ℕ
variable_name m k = name_at (variable_names m) k

abbrev pub sum_name : Lists → ℕ → List ℕ
sum_name m k = name_at (sum_names m) k

abbrev pub truth_name : Lists → Truth → List ℕ
truth_name m (truths.Element k) = element_name m k
truth_name m (truths.Refinement k) = refinement_name m k

abbrev pub number_name : Lists → Number → List ℕ
number_name m (numbers.Var k) = variable_name m k
number_name m (numbers.Sum k) = sum_name m k

-- a term with the coefficient 1 is its bare name
abbrev pub written_term : Lists → ℤ × Number → WrittenTerm
written_term m t = if int_eq t.0 (pos 1) then plain (number_name m t.1) else scaled t.0 (number_name m t.1)

-- `+` is written only for two or more terms
abbrev pub written_linear : Lists → List (ℤ × Number) → WrittenLinear
written_linear m [] = single (plain [])
written_linear m (t ∷ []) = single (written_term m t)
written_linear m (t ∷ u ∷ terms) = total (written_term m t) (map (written_term m) (u ∷ terms))

abbrev pub joined_with : Joint → List WrittenFormula → WrittenFormula
joined_with joint [] = name []
joined_with joint (part ∷ parts) = joined joint part (formulas_of parts)

-- one level, with each part as it is written
abbrev pub written_step : Lists → Formula-F WrittenFormula → WrittenFormula
written_step m (Formula-F.Name x) = name (truth_name m x)
written_step m (Formula-F.Not part) = negation part
written_step m (Formula-F.And parts) = joined_with joints.And parts
written_step m (Formula-F.Or parts) = joined_with joints.Or parts
written_step m (Formula-F.Implies premise conclusion) = paired pairings.Implies premise conclusion
written_step m (Formula-F.Iff one other) = paired pairings.Iff one other
written_step m (Formula-F.AtMost l k) = compared comparisons.AtMost (written_linear m l.terms) k
written_step m (Formula-F.AtLeast l k) = compared comparisons.AtLeast (written_linear m l.terms) k
written_step m (Formula-F.Equal l k) = compared comparisons.Equal (written_linear m l.terms) k

-- the formula as it is written
abbrev pub written_formula : Lists → Formula → WrittenFormula
written_formula m = fold-Formula WrittenFormula (written_step m)

abbrev pub written_element : List ℕ → ElementKind → Bool → WrittenStatement
written_element x element_kinds.Goal must = goal x must
written_element x element_kinds.Task must = named name_words.Task x
written_element x element_kinds.Assume must = named name_words.Assume x

abbrev pub written_refinement : List ℕ → List ℕ → List (List ℕ) → WrittenStatement
written_refinement x target [] = refinement x target [] []
written_refinement x target (first ∷ others) = refinement x target first others

abbrev pub written_rule : Lists → Rule → WrittenStatement
written_rule m (rules_of.Positive x f) = condition condition_words.Positive (truth_name m x) (written_formula m f)
written_rule m (rules_of.Negative x f) = condition condition_words.Negative (truth_name m x) (written_formula m f)
written_rule m (rules_of.Require f) = requirement (written_formula m f)

-- a built-in quantity has its word
abbrev pub quantity_name : Lists → Quantity → List ℕ
quantity_name m (quantities.Var k) = variable_name m k
quantity_name m (quantities.Sum k) = sum_name m k
quantity_name m built_in = quantity_word built_in

abbrev pub direction_of : Bool → Direction
direction_of false = directions.Min
direction_of true = directions.Max

-- the statement as it is written, with the names of these lists
abbrev pub written : Lists → Statement → WrittenStatement
written m (statements.Element e) = written_element e.name e.kind e.must
written m (statements.Refine r) = written_refinement r.name (element_name m r.target) (map (element_name m) r.sources)
written m (statements.Variable v) = variable v.name v.lo v.hi
written m (statements.Sum s) = named name_words.Sum s.name
written m (statements.Contrib e) = pair pair_words.Contrib (element_name m e.from) (element_name m e.to)
written m (statements.Conflict e) = pair pair_words.Conflict (element_name m e.from) (element_name m e.to)
written m (statements.Bind e) = pair pair_words.Bind (refinement_name m e.from) (refinement_name m e.to)
written m (statements.Assert a) = assertion (element_name m a.element) a.truth
written m (statements.Value v) = value (sum_name m v.sum) (truth_name m v.of) v.k
written m (statements.Reward w) = weight weight_words.Reward (element_name m w.element) w.k
written m (statements.Penalty w) = weight weight_words.Penalty (element_name m w.element) w.k
written m (statements.Prefer p) = pair pair_words.Prefer (truth_name m p.better) (truth_name m p.worse)
written m (statements.Rule r) = written_rule m r
written m (statements.Interest k) = named name_words.Interest (element_name m k)
written m (statements.Objective o) = objective (direction_of o.max) (quantity_name m o.of)

-- the line of these tokens, with its line feed
abbrev pub whole_line : List Lexeme → List ℕ
whole_line tokens = spelled_line tokens ++ 10 ∷ []

-- the lines of statements
abbrev pub statement_lines : Lists → List Statement → List ℕ
statement_lines m [] = []
statement_lines m (s ∷ rest) = whole_line (statement_tokens (written m s)) ++ statement_lines m rest

-- the canonical text of a model
unfoldable pub canonical_text : Lists → List ℕ
canonical_text m = whole_line header_tokens ++ statement_lines m (statements_of m)
