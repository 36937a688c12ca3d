-- Laws over the definitions: what the clauses and rows of rules mean, that values can be extended to meet them, and how many they are.
use Rattle.std.specs.Prelude.{◌≡◌, ◌↔◌, ℕ, ◌*◌, ◌<◌, ◌≤◌, cond, IsTrue, List, [], ◌∷◌, ◌++◌, length, ℤ, pos, slice_index_or}
use Rattle.std.specs.List.{All}
use Rattle.cgm_atom.specs.Atoms.{clause_true, row_true}
use Rattle.cgm_atom.specs.Bounds.{value_of}
use Rattle.cgm_atom.specs.Literals.{truth_at}
use Rattle.cgm_base.specs.declared.limit.Which.TheVariants as limits
use Rattle.cgm_base.specs.Words.{limit_number}
use Rattle.cgm_formula.specs.declared.assignment.Assignment.{Assignment}
use Rattle.cgm_formula.specs.declared.formula.Number.TheVariants as number
use Rattle.cgm_model.specs.declared.lists.Lists.{Lists}
use Rattle.cgm_base.specs.Place.{Each}
use Rattle.cgm_model.specs.Realization.{KeepsRule}
use Rattle.cgm_model.specs.TruthVariables.{StandFor}
use Rattle.cgm_model.specs.WellFormed.{IsWellFormedModel}
use Rattle.cgm_enc_formula.specs.Building.{Part, rules_part}
use Rattle.cgm_enc_formula.specs.Definitions.{AreDefined, AreDefinitionsFrom, Definition, definition_true}
use Rattle.cgm_enc_formula.specs.Rules.{rule_definitions}
use Rattle.cgm_enc_formula.specs.Terms.{model_variables, number_variable}

-- each variable and each sum has the value of its problem variable
pub record StandForNumbers (m : Lists) (values : List ℤ) (a : Assignment) (sums : List ℤ) : Type 0 where
  pub variables : (k : ℕ) → k < length m.vars → slice_index_or a.vars k (pos 0) ≡ value_of values (number_variable m (number.Var k))
  pub totals : (k : ℕ) → k < length m.sums → slice_index_or sums k (pos 0) ≡ value_of values (number_variable m (number.Sum k))

-- each clause is true and each row is met
pub record MeetPart (values : List ℤ) (part : Part) : Type 0 where
  pub clauses : All (λ c. IsTrue (clause_true values c)) part.clauses
  pub rows : All (λ r. IsTrue (row_true values r)) part.rows

-- the values meet the part of the rules exactly where each naming variable has the truth of its definition and each rule holds
abbrev pub RulesPartMeansRules : Type 0
RulesPartMeansRules =
    (m : Lists) (values : List ℤ) (a : Assignment) (sums : List ℤ) (n : ℕ)
    → ∥ IsWellFormedModel m ∥₁
    → StandFor m (truth_at values) a
    → StandForNumbers m values a sums
    → MeetPart values (rules_part m n m.rules) ↔ (AreDefined values n (rule_definitions m n m.rules) × Each (KeepsRule a sums) m.rules)

-- the values with those of naming variables behind them: each has the truth of its definition
abbrev pub extended : List ℤ → List Definition → List ℤ
extended values [] = values
extended values (d ∷ ds) = extended (values ++ cond (definition_true values d) (pos 1) (pos 0) ∷ []) ds

-- definitions of variables behind the values are met by the values extended
abbrev pub ExtendedAreDefined : Type 0
ExtendedAreDefined =
    (values : List ℤ) (ds : List Definition)
    → AreDefinitionsFrom (length values) ds
    → AreDefined (extended values ds) (length values) ds

-- the definitions of rules have variables before their own
abbrev pub RuleDefinitionsAreKnown : Type 0
RuleDefinitionsAreKnown =
    (m : Lists) (n : ℕ)
    → ∥ IsWellFormedModel m ∥₁
    → model_variables m ≤ n
    → AreDefinitionsFrom n (rule_definitions m n m.rules)

-- for each node of the formulas at most three naming variables, four clauses, those of the rules included, and four rows
pub record IsSmallPart (part : Part) : Type 0 where
  pub names : part.names ≤ 3 * limit_number limits.FormulaNodes
  pub clauses : length part.clauses ≤ 4 * limit_number limits.FormulaNodes
  pub rows : length part.rows ≤ 4 * limit_number limits.FormulaNodes

abbrev pub RulesPartIsSmall : Type 0
RulesPartIsSmall = (m : Lists) (n : ℕ) → ∥ IsWellFormedModel m ∥₁ → IsSmallPart (rules_part m n m.rules)
