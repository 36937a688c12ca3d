-- What the limits and the conditions say of the formulas of a model's rules.
use Rattle.std.specs.Prelude.{ℕ, ◌<◌, ◌≤◌, Bool, false, nat_eq, nat_le, IsTrue, List, [], ◌∷◌, length, ℤ, unsigned_abs, sum_by}
use Rattle.std.specs.List.{All, list_all}
use Rattle.cgm_base.specs.declared.limit.Which.TheVariants as limits
use Rattle.cgm_base.specs.Words.{limit_number}
use Rattle.cgm_formula.specs.declared.formula.Formula.{Formula}
use Rattle.cgm_formula.specs.declared.formula.Linear.{Linear}
use Rattle.cgm_formula.specs.declared.formula.Number.{Number}
use Rattle.cgm_formula.specs.declared.formula.Number.TheVariants as number
use Rattle.cgm_formula.specs.declared.formula.Truth.{Truth}
use Rattle.cgm_formula.specs.declared.formula.Truth.TheVariants as truth
use Rattle.cgm_formula.specs.Nodes as nodes
use Rattle.cgm_model.specs.Distinct.{are_distinct}
use Rattle.cgm_model.specs.declared.lists.Lists.{Lists}
use Rattle.cgm_model.specs.declared.lists.Rule.{Rule}
use Rattle.cgm_model.specs.declared.lists.Rule.TheVariants as rules

abbrev pub formula_of : Rule → Formula
formula_of (rules.Positive name f) = f
formula_of (rules.Negative name f) = f
formula_of (rules.Require f) = f

-- the name on which a rule depends: one or none
abbrev pub condition_names : Rule → List Truth
condition_names (rules.Positive name f) = name ∷ []
condition_names (rules.Negative name f) = name ∷ []
condition_names (rules.Require f) = []

-- the nodes of the formulas of all rules
abbrev pub node_total : List Rule → ℕ
node_total rs = sum_by (λ r. nodes.node_count (formula_of r)) rs

-- the element or refinement is there
abbrev pub IsKnownTruth : Lists → Truth → Type 0
IsKnownTruth m (truth.Element k) = k < length m.elements
IsKnownTruth m (truth.Refinement k) = k < length m.refinements

-- the variable or sum is there
abbrev pub IsKnownNumber : Lists → Number → Type 0
IsKnownNumber m (number.Var k) = k < length m.vars
IsKnownNumber m (number.Sum k) = k < length m.sums

-- every name and number is there, nothing is empty, and at most 200 brackets are open at once
pub record IsProperFormula (m : Lists) (f : Formula) : Type 0 where
  pub names : All (IsKnownTruth m) (nodes.formula_names f)
  pub numbers : All (λ c. All (λ t. IsKnownNumber m t.1) c.0.terms) (nodes.comparisons f)
  pub full : IsTrue (nodes.is_full f)
  pub depth : nodes.depth f ≤ limit_number limits.FormulaDepth

pub record IsProperRule (m : Lists) (r : Rule) : Type 0 where
  pub condition : All (IsKnownTruth m) (condition_names r)
  pub formula : IsProperFormula m (formula_of r)

-- the number of a term, a value, a reward or a penalty doesn't pass its limit
abbrev pub is_small : ℤ → Bool
is_small k = nat_le (unsigned_abs k) (limit_number limits.Coefficient)

-- no coefficient of a linear expression passes its limit
abbrev pub has_small_terms : Linear → Bool
has_small_terms l = list_all (λ t. is_small t.0) l.terms

abbrev pub is_same_number : Number → Number → Bool
is_same_number (number.Var j) (number.Var k) = nat_eq j k
is_same_number (number.Sum j) (number.Sum k) = nat_eq j k
is_same_number (number.Var j) (number.Sum k) = false
is_same_number (number.Sum j) (number.Var k) = false

-- no variable or sum stands twice
abbrev pub are_distinct_terms : List (ℤ × Number) → Bool
are_distinct_terms terms = are_distinct (λ u t. is_same_number u.1 t.1) terms

abbrev pub has_distinct_terms : Linear → Bool
has_distinct_terms l = are_distinct_terms l.terms

-- each linear expression of the formula passes the test
abbrev pub every_linear : (Linear → Bool) → Formula → Bool
every_linear test f = list_all (λ c. test c.0) (nodes.comparisons f)
