-- The problem of a model as it grows: after the variables, the goal graph, the sums, the rules and the preferences; and how its building ends.
use Rattle.std.specs.Prelude.{◌≡◌, ℕ, List, [], ◌++◌, map, flat_map, Result, Ok, Err}
use Rattle.std.specs.List.{enumerate_from}
use Rattle.cgm_atom.specs.Building.{without_repeats}
use Rattle.cgm_atom.specs.Instance.{Instance, var_count}
use Rattle.cgm_model.specs.declared.lists.Lists.{Lists}
use Rattle.cgm_base.specs.Place.{FirstFails}
use Rattle.cgm_evolve.specs.Pairs.{Pair}
use Rattle.cgm_enc_formula.specs.declared.stop.EncodeStop.{EncodeStop}
use Rattle.cgm_enc_formula.specs.declared.stop.EncodeStop.TheVariants as stops
use Rattle.cgm_enc_formula.specs.Measures.{IsWithinMeasure}
use Rattle.cgm_enc_graph.specs.GraphClauses.{graph_clauses}
use Rattle.cgm_encode.specs.declared.expressions.Expression.{Expression}
use Rattle.cgm_encode.specs.Building.{defining_rows, expression_range, with_ranges, with_rows}
use Rattle.cgm_encode.specs.Encoding.{IsEncodable, number_box}
use Rattle.cgm_encode.specs.Problem.{box_of_problem, choice_ranges, model_rules_part, number_ranges, own_ranges, preferences_written, problem_of, rule_ranges, sum_rows}

-- elements, refinements and variables
abbrev pub own_instance : Lists → Instance
own_instance m = record { bounds = box_of_problem (own_ranges m); clauses = []; rows = []; objectives = [] }

-- and the goal graph
abbrev pub graph_instance : Lists → Instance
graph_instance m = record { bounds = box_of_problem (own_ranges m); clauses = graph_clauses m; rows = []; objectives = [] }

-- and sums
abbrev pub numbers_instance : Lists → Instance
numbers_instance m = record { bounds = box_of_problem (number_ranges m); clauses = graph_clauses m; rows = sum_rows m; objectives = [] }

-- and rules
abbrev pub rules_instance : Lists → Instance
rules_instance m = record {
  bounds = box_of_problem (rule_ranges m);
  clauses = graph_clauses m ++ map without_repeats (model_rules_part m).clauses;
  rows = sum_rows m ++ (model_rules_part m).rows;
  objectives = [];
}

-- and preferences
abbrev pub choices_instance : Lists → Instance
choices_instance m = record {
  bounds = box_of_problem (choice_ranges m);
  clauses = (graph_clauses m ++ map without_repeats (model_rules_part m).clauses) ++ map without_repeats (preferences_written m);
  rows = sum_rows m ++ (model_rules_part m).rows;
  objectives = [];
}

-- the problem with a variable more for each expression, and the rows by which it is the expression's value
abbrev pub with_defined : Instance → List Expression → Instance
with_defined p expressions =
    with_rows (with_ranges p (map (expression_range p.bounds) expressions))
    (flat_map defining_rows (enumerate_from (var_count p) expressions))

-- the problem with these objectives more
abbrev pub with_objectives : Instance → List ℕ → Instance
with_objectives p variables = record p { objectives = p.objectives ++ map (λ x. record { 0 = x }) variables }

-- the whole problem; or the first rule with a comparison whose measure passes the limit; or want of memory
abbrev pub IsBuildAnswer : Lists → List Pair → Instance → Result (Unit {0}) EncodeStop → Type 0
IsBuildAnswer m pairs new (Ok _) = IsEncodable m × (new ≡ problem_of m pairs)
IsBuildAnswer m pairs new (Err (stops.Row rule)) = FirstFails (IsWithinMeasure m (number_box m)) m.rules rule
IsBuildAnswer m pairs new (Err stops.Memory) = Unit {0}
