-- The problem of a model as it grows, stage by stage.
use Rattle.std.proofs.Common.{◌≡◌, ℕ, zero, suc, ◌+◌, List, [], ◌∷◌, ◌++◌, length, map, refl, sym, ap, ◌∙◌, arith}
use Rattle.std.specs.Prelude.{flat_map}
use Rattle.std.specs.List.{enumerate_from, range_with_len, zip}
use Rattle.std.proofs.lemmas.List.{length-map}
use Rattle.cgm_atom.specs.declared.constraints.Clause.{Clause}
use Rattle.cgm_atom.specs.declared.constraints.Row.{Row}
use Rattle.cgm_atom.specs.declared.constraints.Var.{Var}
use Rattle.cgm_atom.specs.Adding.{with_written}
use Rattle.cgm_atom.specs.Bounds.{Bounds}
use Rattle.cgm_atom.specs.Building.{empty_instance, without_repeats}
use Rattle.cgm_atom.specs.Instance.{Instance, var_count}
use Rattle.cgm_formula.specs.declared.formula.Number.TheVariants as number
use Rattle.cgm_model.specs.declared.lists.Lists.{Lists}
use Rattle.cgm_model.specs.declared.lists.Objective.{Objective}
use Rattle.cgm_model.specs.declared.lists.Preference.{Preference}
use Rattle.cgm_model.specs.TruthVariables.{truth_variables}
use Rattle.cgm_evolve.specs.Pairs.{Pair}
use Rattle.cgm_enc_formula.specs.Building.{rules_part, with_part}
use Rattle.cgm_enc_formula.specs.Terms.{model_variables, number_variable}
use Rattle.cgm_enc_graph.specs.GraphClauses.{graph_clauses}
use Rattle.cgm_encode.specs.declared.expressions.Expression.{Expression}
use Rattle.cgm_encode.specs.Building.{defining_rows, expression_of, expression_range, with_ranges}
use Rattle.cgm_encode.specs.Problem.{all_ranges, bits, box_of_problem, choice_ranges, model_rules_part, number_ranges, objective_rows, own_range, own_ranges, preference_clauses, preferences_written, problem_of, rule_ranges, sum_rows}
use Rattle.cgm_encode.specs.Quantities.{objective_total, sum_total}
use Rattle.cgm_encode.specs.Stages.{choices_instance, graph_instance, numbers_instance, own_instance, rules_instance, with_defined, with_objectives}
use Rattle.cgm_encode.specs.Totals.{Range, total_rows}
use Rattle.cgm_encode.specs.Variables.{first_objective, first_preference, naming_count}
use Rattle.cgm_encode.proofs.AddedRows.{zipped}
use Rattle.cgm_encode.proofs.Boxes.{box_and_bits, box_joined}
use Rattle.cgm_encode.proofs.RangeCounts.{choices_long, numbers_long, own_long, rules_long}

-- ---- a problem over ranges

abbrev pub stage : List Range → List Clause → List Row → List Var → Instance
stage ranges clauses rows objectives = record { bounds = box_of_problem ranges; clauses = clauses; rows = rows; objectives = objectives }

pub stage_count : (ranges : List Range) (clauses : List Clause) (rows : List Row) (objectives : List Var) → var_count (stage ranges clauses rows objectives) ≡ length ranges
stage_count ranges clauses rows objectives = length-map ranges (λ (r : Range). r.0)

pub ranges_added : (ranges more : List Range) (clauses : List Clause) (rows : List Row) (objectives : List Var) → with_ranges (stage ranges clauses rows objectives) more ≡ stage (ranges ++ more) clauses rows objectives
ranges_added ranges more clauses rows objectives =
    ap (λ (b : Bounds). record { bounds = b; clauses = clauses; rows = rows; objectives = objectives }) (sym (box_joined ranges more))

-- ---- elements, refinements and variables

pub own_grown : (m : Lists) → with_ranges (with_ranges empty_instance (bits (truth_variables m))) (map own_range m.vars) ≡ own_instance m
own_grown m =
    ap (λ (p : Instance). with_ranges p (map own_range m.vars)) (ranges_added [] (bits (truth_variables m)) [] [] [])
    ∙ ranges_added (bits (truth_variables m)) (map own_range m.vars) [] [] []

pub own_count : (m : Lists) → var_count (own_instance m) ≡ truth_variables m + length m.vars
own_count m = stage_count (own_ranges m) [] [] [] ∙ own_long m

-- ---- totals

pub twice : {X Y Z : Type 0} (g : Y → Z) (f : X → Y) (xs : List X) → map g (map f xs) ≡ map (λ x. g (f x)) xs
twice g f [] = refl
twice {X} {Y} {Z} g f (x ∷ xs) = ap (λ (zs : List Z). g (f x) ∷ zs) (twice g f xs)

numbered_rows : {X : Type 0} (f : X → Expression) (n : ℕ) (xs : List X) → flat_map defining_rows (enumerate_from n (map f xs)) ≡ flat_map (λ x. defining_rows (x.0, f x.1)) (enumerate_from n xs)
numbered_rows f n [] = refl
numbered_rows f n (x ∷ xs) = ap (λ (rows : List Row). defining_rows (n, f x) ++ rows) (numbered_rows f (n + 1) xs)

-- the expressions of the sums
abbrev pub sum_expressions : Lists → List Expression
sum_expressions m = map (λ sum. expression_of (truth_variables m) (sum_total m sum)) (range_with_len 0 (length m.sums))

ranged_rows : (m : Lists) (a k n : ℕ) → n ≡ truth_variables m + length m.vars + a → flat_map defining_rows (enumerate_from n (map (λ sum. expression_of (truth_variables m) (sum_total m sum)) (range_with_len a k))) ≡ flat_map (λ sum. total_rows (truth_variables m) (sum_total m sum) (number_variable m (number.Sum sum))) (range_with_len a k)
ranged_rows m a zero n e = refl
ranged_rows m a (suc k) n e =
    let next : n + 1 ≡ truth_variables m + length m.vars + (a + 1) = omega arith in
    ap (λ (v : ℕ). total_rows (truth_variables m) (sum_total m a) v
    ++ flat_map defining_rows (enumerate_from (n + 1) (map (λ sum. expression_of (truth_variables m) (sum_total m sum)) (range_with_len (a + 1) k)))) e
    ∙ ap (λ (rows : List Row). total_rows (truth_variables m) (sum_total m a) (number_variable m (number.Sum a)) ++ rows) (ranged_rows m (a + 1) k (n + 1) next)

pub numbers_grown : (m : Lists) → with_defined (graph_instance m) (sum_expressions m) ≡ numbers_instance m
numbers_grown m =
    let b = box_of_problem (own_ranges m) in
    let n = var_count (graph_instance m) in
    let count : n ≡ truth_variables m + length m.vars + 0 = own_count m ∙ (let e : truth_variables m + length m.vars ≡ truth_variables m + length m.vars + 0 = omega arith in e) in
    ap (λ (bounds : Bounds). record { bounds = bounds; clauses = graph_clauses m; rows = flat_map defining_rows (enumerate_from n (sum_expressions m)); objectives = [] })
    (sym (box_joined (own_ranges m) (map (expression_range b) (sum_expressions m)))
    ∙ ap (λ (rs : List Range). box_of_problem (own_ranges m ++ rs)) (twice (expression_range b) (λ sum. expression_of (truth_variables m) (sum_total m sum)) (range_with_len 0 (length m.sums))))
    ∙ ap (λ (rows : List Row). record { bounds = box_of_problem (number_ranges m); clauses = graph_clauses m; rows = rows; objectives = [] }) (ranged_rows m 0 (length m.sums) n count)

pub numbers_count : (m : Lists) → var_count (numbers_instance m) ≡ model_variables m
numbers_count m = length-map (number_ranges m) (λ (r : Range). r.0) ∙ numbers_long m

-- ---- rules

pub rules_grown : (m : Lists) → with_part (numbers_instance m) (rules_part m (var_count (numbers_instance m)) m.rules) ≡ rules_instance m
unfolding rules_part
rules_grown m =
    ap (λ (n : ℕ). with_part (numbers_instance m) (rules_part m n m.rules)) (numbers_count m)
    ∙ ap (λ (bounds : Bounds). record {
      bounds = bounds;
      clauses = graph_clauses m ++ map without_repeats (model_rules_part m).clauses;
      rows = sum_rows m ++ (model_rules_part m).rows;
      objectives = [];
    }) (sym (box_and_bits (number_ranges m) (naming_count m)))

pub rules_count : (m : Lists) → var_count (rules_instance m) ≡ first_preference m
rules_count m = length-map (rule_ranges m) (λ (r : Range). r.0) ∙ rules_long m

-- ---- preferences

pub choices_grown : (m : Lists) (variables : List ℕ) → variables ≡ range_with_len (first_preference m) (length m.prefers) → with_written (with_ranges (rules_instance m) (bits (length m.prefers))) (flat_map (preference_clauses m) (zip variables m.prefers)) ≡ choices_instance m
choices_grown m variables are =
    let written = flat_map (preference_clauses m) (zip variables m.prefers) in
    let same : written ≡ preferences_written m =
    ap (λ (vs : List ℕ). flat_map (preference_clauses m) (zip vs m.prefers)) are
    ∙ ap (λ (ps : List (ℕ × Preference)). flat_map (preference_clauses m) ps) (zipped (first_preference m) m.prefers) in
    ap (λ (bounds : Bounds). record {
      bounds = bounds;
      clauses = (graph_clauses m ++ map without_repeats (model_rules_part m).clauses) ++ map without_repeats written;
      rows = sum_rows m ++ (model_rules_part m).rows;
      objectives = [];
    }) (sym (box_joined (rule_ranges m) (bits (length m.prefers))))
    ∙ ap (λ (clauses : List Clause). record {
      bounds = box_of_problem (choice_ranges m);
      clauses = (graph_clauses m ++ map without_repeats (model_rules_part m).clauses) ++ map without_repeats clauses;
      rows = sum_rows m ++ (model_rules_part m).rows;
      objectives = [];
    }) same

pub choices_count : (m : Lists) → var_count (choices_instance m) ≡ first_objective m
choices_count m = length-map (choice_ranges m) (λ (r : Range). r.0) ∙ choices_long m

-- ---- objectives

abbrev pub objective_expressions : Lists → List Pair → List Expression
objective_expressions m pairs = map (λ o. expression_of (first_objective m) (objective_total m pairs o)) m.objectives

pub objectives_grown : (m : Lists) (pairs : List Pair) (variables : List ℕ) → variables ≡ range_with_len (var_count (choices_instance m)) (length (objective_expressions m pairs)) → with_objectives (with_defined (choices_instance m) (objective_expressions m pairs)) variables ≡ problem_of m pairs
unfolding problem_of
objectives_grown m pairs variables are =
    let b = box_of_problem (choice_ranges m) in
    let f : Objective → Expression = λ o. expression_of (first_objective m) (objective_total m pairs o) in
    let clauses = (graph_clauses m ++ map without_repeats (model_rules_part m).clauses) ++ map without_repeats (preferences_written m) in
    let before = sum_rows m ++ (model_rules_part m).rows in
    let long : length (objective_expressions m pairs) ≡ length m.objectives = length-map m.objectives f in
    let own : variables ≡ range_with_len (first_objective m) (length m.objectives) =
    are ∙ ap (λ (n : ℕ). range_with_len n (length (objective_expressions m pairs))) (choices_count m) ∙ ap (λ (k : ℕ). range_with_len (first_objective m) k) long in
    let rows_are : flat_map defining_rows (enumerate_from (var_count (choices_instance m)) (objective_expressions m pairs)) ≡ objective_rows m pairs =
    ap (λ (n : ℕ). flat_map defining_rows (enumerate_from n (objective_expressions m pairs))) (choices_count m)
    ∙ numbered_rows f (first_objective m) m.objectives in
    let objectives_of : List ℕ → List Var = λ vs. map (λ x. record { 0 = x }) vs in
    ap (λ (bounds : Bounds). record {
      bounds = bounds;
      clauses = clauses;
      rows = before ++ flat_map defining_rows (enumerate_from (var_count (choices_instance m)) (objective_expressions m pairs));
      objectives = objectives_of variables;
    }) (sym (box_joined (choice_ranges m) (map (expression_range b) (objective_expressions m pairs)))
    ∙ ap (λ (rs : List Range). box_of_problem (choice_ranges m ++ rs)) (twice (expression_range b) f m.objectives))
    ∙ ap (λ (rows : List Row). record { bounds = box_of_problem (all_ranges m pairs); clauses = clauses; rows = before ++ rows; objectives = objectives_of variables }) rows_are
    ∙ ap (λ (vs : List ℕ). record { bounds = box_of_problem (all_ranges m pairs); clauses = clauses; rows = before ++ objective_rows m pairs; objectives = objectives_of vs }) own
