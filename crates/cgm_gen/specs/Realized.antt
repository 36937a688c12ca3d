-- A realization of a generated model, written out: each goal is reached by its cheaper task alone.
use Rattle.std.specs.Prelude.{ℕ, Bool, true, not, nat_le, List, [], ◌∷◌, ℤ}
use Rattle.cgm_formula.specs.declared.assignment.Assignment.{Assignment}
use Rattle.cgm_model.specs.declared.lists.Lists.{Lists}
use Rattle.cgm_model.specs.Sums.{sum_value}
use Rattle.cgm_gen.specs.declared.costs.Costs.{Costs}
use Rattle.cgm_gen.specs.Draws.{costs_of}
use Rattle.cgm_gen.specs.GeneratedText.{each_goal}

-- the task A of a goal is taken where it costs no more than B
abbrev pub takes_a : Costs → Bool
takes_a costs = nat_le costs.of_a costs.of_b

-- the truths of a goal, of its task B and of its task A
abbrev pub element_truths : ℕ → Costs → List Bool
element_truths place costs = true ∷ not (takes_a costs) ∷ takes_a costs ∷ []

-- the truths of the ways by A and by B
abbrev pub way_truths : ℕ → Costs → List Bool
way_truths place costs = takes_a costs ∷ not (takes_a costs) ∷ []

abbrev pub realization_of_costs : List Costs → Assignment
realization_of_costs costs = record {
  elements = each_goal element_truths 0 costs;
  refinements = each_goal way_truths 0 costs;
  vars = [];
}

-- the realization of the generated model of so many goals
unfoldable pub generated_realization : ℕ → Assignment
generated_realization goals = realization_of_costs (costs_of goals)

-- what an assignment costs: the value of the one sum
abbrev pub cost_in : Lists → Assignment → ℤ
cost_in m a = sum_value m a 0
