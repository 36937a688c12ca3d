-- The problem of a model and an earlier realization: its variables with their bounds, its clauses, its rows and its objectives, each by group in order.
use Rattle.std.specs.Prelude.{ℕ, List, [], ◌∷◌, ◌++◌, length, map, flat_map, replicate, pos}
use Rattle.std.specs.List.{enumerate_from, range_with_len}
use Rattle.cgm_atom.specs.declared.constraints.Clause.{Clause}
use Rattle.cgm_atom.specs.declared.constraints.Row.{Row}
use Rattle.cgm_atom.specs.Bounds.{Bounds}
use Rattle.cgm_atom.specs.Building.{without_repeats}
use Rattle.cgm_atom.specs.Instance.{Instance}
use Rattle.cgm_atom.specs.Literals.{clause, literal, negated}
use Rattle.cgm_formula.specs.declared.formula.Number.TheVariants as number
use Rattle.cgm_model.specs.declared.lists.Lists.{Lists}
use Rattle.cgm_model.specs.declared.lists.Objective.{Objective}
use Rattle.cgm_model.specs.declared.lists.Preference.{Preference}
use Rattle.cgm_model.specs.declared.lists.Variable.{Variable}
use Rattle.cgm_model.specs.TruthVariables.{truth_variables, variable_of}
use Rattle.cgm_evolve.specs.Pairs.{Pair}
use Rattle.cgm_enc_formula.specs.Building.{Part, rules_part}
use Rattle.cgm_enc_formula.specs.Terms.{model_variables, number_variable}
use Rattle.cgm_enc_graph.specs.GraphClauses.{graph_clauses}
use Rattle.cgm_encode.specs.Quantities.{objective_total, sum_total}
use Rattle.cgm_encode.specs.Totals.{Range, total_range, total_rows}
use Rattle.cgm_encode.specs.Variables.{first_objective, first_preference, naming_count}

-- ---- variables

abbrev pub box_of_problem : List Range → Bounds
box_of_problem ranges = record { lower = map (λ r. r.0) ranges; upper = map (λ r. r.1) ranges }

-- so many variables of 0 to 1
abbrev pub bits : ℕ → List Range
bits n = replicate n (pos 0, pos 1)

-- the bounds of a variable of the model
abbrev pub own_range : Variable → Range
own_range v = (v.lo, v.hi)

-- elements, refinements, variables of the model
abbrev pub own_ranges : Lists → List Range
own_ranges m = bits (truth_variables m) ++ map own_range m.vars

-- a sum lies between the sums of its negative and of its positive combined numbers
abbrev pub sum_range : Lists → ℕ → Range
sum_range m sum = total_range (box_of_problem (own_ranges m)) (truth_variables m) (sum_total m sum)

-- and sums
abbrev pub number_ranges : Lists → List Range
number_ranges m = own_ranges m ++ map (sum_range m) (range_with_len 0 (length m.sums))

-- and naming variables
abbrev pub rule_ranges : Lists → List Range
rule_ranges m = number_ranges m ++ bits (naming_count m)

-- and preferences
abbrev pub choice_ranges : Lists → List Range
choice_ranges m = rule_ranges m ++ bits (length m.prefers)

abbrev pub objective_range : Lists → List Pair → Objective → Range
objective_range m pairs o = total_range (box_of_problem (choice_ranges m)) (first_objective m) (objective_total m pairs o)

-- and objectives
abbrev pub all_ranges : Lists → List Pair → List Range
all_ranges m pairs = choice_ranges m ++ map (objective_range m pairs) m.objectives

-- ---- clauses

-- of a preference A B with variable u: `~u ~A`, `~u B`, `u A ~B`
abbrev pub preference_clauses : Lists → ℕ × Preference → List Clause
preference_clauses m p =
    let a = variable_of m p.1.better in
    let b = variable_of m p.1.worse in
    clause (negated p.0 ∷ negated a ∷ [])
    ∷ clause (negated p.0 ∷ literal b ∷ [])
    ∷ clause (literal p.0 ∷ literal a ∷ negated b ∷ [])
    ∷ []

-- of all preferences, as they are written
abbrev pub preferences_written : Lists → List Clause
preferences_written m = flat_map (preference_clauses m) (enumerate_from (first_preference m) m.prefers)

-- the part of the rules, behind the variables of sums
abbrev pub model_rules_part : Lists → Part
model_rules_part m = rules_part m (model_variables m) m.rules

-- ---- rows

abbrev pub sum_rows : Lists → List Row
sum_rows m =
    flat_map (λ sum. total_rows (truth_variables m) (sum_total m sum) (number_variable m (number.Sum sum)))
    (range_with_len 0 (length m.sums))

abbrev pub objective_rows : Lists → List Pair → List Row
objective_rows m pairs =
    flat_map (λ o. total_rows (first_objective m) (objective_total m pairs o.1) o.0)
    (enumerate_from (first_objective m) m.objectives)

-- ---- the problem

unfoldable pub problem_of : Lists → List Pair → Instance
problem_of m pairs = record {
  bounds = box_of_problem (all_ranges m pairs);
  clauses = (graph_clauses m ++ map without_repeats (model_rules_part m).clauses) ++ map without_repeats (preferences_written m);
  rows = (sum_rows m ++ (model_rules_part m).rows) ++ objective_rows m pairs;
  objectives = map (λ x. record { 0 = x }) (range_with_len (first_objective m) (length m.objectives));
}
