-- The model of a generated text: its statements in the order of the text, and its lists.
use Rattle.std.specs.Prelude.{ℕ, zero, suc, ◌+◌, ◌*◌, ◌-◌, true, false, List, [], ◌∷◌, ◌++◌, pos, codes, length}
use Rattle.cgm_formula.specs.declared.formula.Formula.TheVariants as formulas
use Rattle.cgm_formula.specs.declared.formula.Linear.{Linear}
use Rattle.cgm_formula.specs.declared.formula.Number.TheVariants as numbers
use Rattle.cgm_formula.specs.declared.formula.Truth.TheVariants as truths
use Rattle.cgm_model.specs.declared.lists.Edge.{Edge}
use Rattle.cgm_model.specs.declared.lists.Element.{Element}
use Rattle.cgm_model.specs.declared.lists.ElementKind.TheVariants as kinds
use Rattle.cgm_model.specs.declared.lists.Lists.{Lists}
use Rattle.cgm_model.specs.declared.lists.Objective.{Objective}
use Rattle.cgm_model.specs.declared.lists.Quantity.TheVariants as quantities
use Rattle.cgm_model.specs.declared.lists.Refinement.{Refinement}
use Rattle.cgm_model.specs.declared.lists.Rule.{Rule}
use Rattle.cgm_model.specs.declared.lists.Rule.TheVariants as rules_of
use Rattle.cgm_model.specs.declared.lists.Statement.{Statement}
use Rattle.cgm_model.specs.declared.lists.Statement.TheVariants as statements
use Rattle.cgm_model.specs.declared.lists.Sum.{Sum}
use Rattle.cgm_model.specs.declared.lists.SumValue.{SumValue}
use Rattle.cgm_model.specs.Lists.{lists}
use Rattle.cgm_gen.specs.declared.costs.Costs.{Costs}
use Rattle.cgm_gen.specs.Draws.{costs_of}
use Rattle.cgm_gen.specs.GeneratedText.{a_name, b_name, each_goal, goal_name, r_name, s_name}

-- ---- numbers of elements; each goal has three, in the order of the text

-- the goal at a place
abbrev pub goal_number : ℕ → ℕ
goal_number place = 3 * place

-- its task B
abbrev pub b_number : ℕ → ℕ
b_number place = 3 * place + 1

-- its task A
abbrev pub a_number : ℕ → ℕ
a_number place = 3 * place + 2

-- ---- statements

abbrev pub goal_at : ℕ → Element
goal_at place = record { name = goal_name place; kind = kinds.Goal; must = true }

abbrev pub b_at : ℕ → Element
b_at place = record { name = b_name place; kind = kinds.Task; must = false }

abbrev pub a_at : ℕ → Element
a_at place = record { name = a_name place; kind = kinds.Task; must = false }

-- the goal is reached by its task A
abbrev pub r_at : ℕ → Refinement
r_at place = record { name = r_name place; target = goal_number place; sources = a_number place ∷ [] }

-- the goal is reached by its task B
abbrev pub s_at : ℕ → Refinement
s_at place = record { name = s_name place; target = goal_number place; sources = b_number place ∷ [] }

-- where its task B is true, so is that of the next goal
abbrev pub link_at : ℕ → Edge
link_at place = record { from = b_number place; to = b_number (place + 1) }

abbrev pub cost_sum : Sum
cost_sum = record { name = codes "cost" }

abbrev pub a_value : ℕ → Costs → SumValue
a_value place costs = record { sum = 0; of = truths.Element (a_number place); k = pos costs.of_a }

abbrev pub b_value : ℕ → Costs → SumValue
b_value place costs = record { sum = 0; of = truths.Element (b_number place); k = pos costs.of_b }

-- the cost
abbrev pub cost_term : Linear
cost_term = record { terms = (pos 1, numbers.Sum 0) ∷ [] }

-- the cost is at most 800
abbrev pub cost_rule : Rule
cost_rule = rules_of.Require (formulas.AtMost cost_term (pos 800))

abbrev pub cost_objective : Objective
cost_objective = record { max = false; of = quantities.Sum 0 }

-- so many links, of which the first begins at this place
abbrev pub links : ℕ → ℕ → List Edge
links place zero = []
links place (suc count) = link_at place ∷ links (place + 1) count

-- ---- the model

-- its lists: nothing is said of variables, conflicts, bindings, assertions, weights, preferences and interests
abbrev pub model_of_costs : List Costs → Lists
model_of_costs costs =
    lists
    (each_goal (λ place one. goal_at place ∷ b_at place ∷ a_at place ∷ []) 0 costs)
    (each_goal (λ place one. r_at place ∷ s_at place ∷ []) 0 costs)
    []
    (cost_sum ∷ [])
    (links 8 (length costs - 9))
    [] [] []
    (each_goal (λ place one. a_value place one ∷ b_value place one ∷ []) 0 costs)
    [] [] []
    (cost_rule ∷ [])
    []
    (cost_objective ∷ [])

-- the generated model of so many goals
unfoldable pub generated_model : ℕ → Lists
generated_model goals = model_of_costs (costs_of goals)

-- ---- its statements, in the order of the text

abbrev pub goal_statements : ℕ → List Statement
goal_statements place =
    statements.Element (goal_at place) ∷ statements.Element (b_at place)
    ∷ statements.Element (a_at place) ∷ statements.Refine (r_at place)
    ∷ statements.Refine (s_at place) ∷ []

abbrev pub value_statements : ℕ → Costs → List Statement
value_statements place costs =
    statements.Value (a_value place costs) ∷ statements.Value (b_value place costs) ∷ []

abbrev pub link_statements : ℕ → ℕ → List Statement
link_statements place zero = []
link_statements place (suc count) =
    statements.Contrib (link_at place) ∷ link_statements (place + 1) count

abbrev pub statements_of_costs : List Costs → List Statement
statements_of_costs costs =
    each_goal (λ place one. goal_statements place) 0 costs
    ++ (statements.Sum cost_sum
    ∷ (each_goal value_statements 0 costs
    ++ (link_statements 8 (length costs - 9)
    ++ (statements.Rule cost_rule ∷ statements.Objective cost_objective ∷ []))))
