-- The expressions of sums and objectives are within the limits of the problem to which they are added.
use Rattle.std.proofs.Common.{◌≡◌, ℕ, ◌+◌, ◌<◌, ◌≤◌, List, [], ◌++◌, length, get_or, map, sym, ap, ◌∙◌, subst, arith}
use Rattle.std.specs.Prelude.{ℤ, ◌≤ℤ◌, ◌^◌, flat_map, unsigned_abs}
use Rattle.std.specs.List.{All, enumerate_from, range_with_len, zip}
use Rattle.std.proofs.lemmas.List.{get_or-map, length-append, length-map}
use Rattle.std.proofs.lemmas.List.Elements.{All-map, All-weaker}
use Rattle.cgm_atom.specs.declared.constraints.Var.{Var}
use Rattle.cgm_atom.specs.Adding.{CanTake}
use Rattle.cgm_atom.specs.Building.{without_repeats}
use Rattle.cgm_atom.specs.Instance.{Instance, var_count}
use Rattle.cgm_atom.specs.Limits.{IsClauseOf}
use Rattle.cgm_atom.proofs.Additions.{All-back, All-front}
use Rattle.cgm_model.specs.declared.lists.Lists.{Lists}
use Rattle.cgm_model.specs.declared.lists.Preference.{Preference}
use Rattle.cgm_model.specs.TruthVariables.{truth_variables}
use Rattle.cgm_model.specs.WellFormed.{IsWellFormedModel}
use Rattle.cgm_evolve.specs.Pairs.{Pair}
use Rattle.cgm_enc_formula.proofs.RuleSizes.{rules_part_small}
use Rattle.cgm_enc_formula.proofs.TermOrders.{terms_wider}
use Rattle.cgm_enc_graph.specs.GraphClauses.{graph_clauses}
use Rattle.cgm_encode.specs.declared.expressions.Expression.{Expression}
use Rattle.cgm_encode.specs.Building.{IsDefining, IsMeasured, defining_rows, expression_of, expression_range, with_ranges}
use Rattle.cgm_encode.specs.Problem.{all_ranges, bits, choice_ranges, model_rules_part, number_ranges, objective_range, objective_rows, own_ranges, preference_clauses, preferences_written, problem_of, rule_ranges, sum_range, sum_rows}
use Rattle.cgm_encode.specs.Quantities.{objective_total, sum_total}
use Rattle.cgm_encode.specs.Stages.{choices_instance, graph_instance, rules_instance, with_defined}
use Rattle.cgm_encode.specs.Totals.{Range, Total, combined_terms}
use Rattle.cgm_encode.specs.Variables.{first_objective, first_preference, naming_count, variable_total}
use Rattle.cgm_encode.proofs.AddedRows.{zipped}
use Rattle.cgm_encode.proofs.AddedVariables.{ranges_count}
use Rattle.cgm_encode.proofs.GroupPlaces.{all_ranged}
use Rattle.cgm_encode.proofs.Growing.{choices_count, objective_expressions, own_count, rules_count, sum_expressions}
use Rattle.cgm_encode.proofs.KnownSizes.{known_sizes}
use Rattle.cgm_encode.proofs.MeasuredTotals.{IsSmallTotal, objective_small, sum_small}
use Rattle.cgm_encode.proofs.ProblemRows.{preferences_known}
use Rattle.cgm_encode.proofs.ProblemSizes.{IsOrdered, all_ordered, problem_small}
use Rattle.cgm_encode.proofs.RangeCounts.{all_long, bits_long}

-- ---- counts

-- how many variables, clauses and rows there can be
pub record HasFewParts (m : Lists) : Type 0 where
  pub variables : variable_total m < 2 ^ 31
  pub clauses : length (graph_clauses m) + length (model_rules_part m).clauses + length (preferences_written m) < 2 ^ 31
  pub rows : length (sum_rows m) + length (model_rules_part m).rows < 2 ^ 31

pub few_parts : (m : Lists) → ∥ IsWellFormedModel m ∥₁ → HasFewParts m
unfolding problem_of
few_parts m well =
    let small = problem_small rules_part_small m [] well in
    let graph = graph_clauses m in
    let rules = (model_rules_part m).clauses in
    let prefers = preferences_written m in
    let variables = small.var_limit in
    let ranges = length-map (all_ranges m []) (λ (r : Range). r.0) in
    let long = all_long m [] in
    let clauses = small.clause_limit in
    let all_clauses = length-append (graph ++ map without_repeats rules) (map without_repeats prefers) in
    let first_clauses = length-append graph (map without_repeats rules) in
    let own = length-map rules without_repeats in
    let last = length-map prefers without_repeats in
    let rows = small.row_limit in
    let all_rows = length-append (sum_rows m ++ (model_rules_part m).rows) (objective_rows m []) in
    let first_rows = length-append (sum_rows m) (model_rules_part m).rows in
    record { variables = omega arith; clauses = omega arith; rows = omega arith }

-- ---- ranges in order

unmapped : {X : Type 0} (g : X → Range) (xs : List X) → All IsOrdered (map g xs) → (k : ℕ) (d : X) → k < length xs → IsOrdered (g (get_or xs k d))
unmapped g xs h k d l =
    let long = length-map xs g in
    subst IsOrdered (get_or-map g xs k d (g d) l) (h k (g d) (omega arith))

choices_ordered : (m : Lists) (pairs : List Pair) → ∥ IsWellFormedModel m ∥₁ → All IsOrdered (choice_ranges m)
choices_ordered m pairs well =
    All-front IsOrdered (choice_ranges m) (map (objective_range m pairs) m.objectives) (all_ordered m pairs (known_sizes m well))

sums_ordered : (m : Lists) → ∥ IsWellFormedModel m ∥₁ → All IsOrdered (map (sum_range m) (range_with_len 0 (length m.sums)))
sums_ordered m well =
    All-back IsOrdered (own_ranges m) (map (sum_range m) (range_with_len 0 (length m.sums)))
    (All-front IsOrdered (number_ranges m) (bits (naming_count m))
    (All-front IsOrdered (rule_ranges m) (bits (length m.prefers)) (choices_ordered m [] well)))

objectives_ordered : (m : Lists) (pairs : List Pair) → ∥ IsWellFormedModel m ∥₁ → All IsOrdered (map (objective_range m pairs) m.objectives)
objectives_ordered m pairs well =
    All-back IsOrdered (choice_ranges m) (map (objective_range m pairs) m.objectives) (all_ordered m pairs (known_sizes m well))

-- ---- limits

within : (n : ℕ) → n ≤ 1000000000000 → n < 2 ^ 63
within n l = omega arith

small_measured : (p : Instance) (n : ℕ) (t : Total) → n ≤ var_count p → IsSmallTotal p.bounds n t → IsOrdered (expression_range p.bounds (expression_of n t)) → IsMeasured p (expression_of n t)
small_measured p n t few small ordered =
    let measured = small.measured in
    let constant = small.constant in
    record {
      terms = terms_wider n (var_count p) few (combined_terms n t.shares) small.terms;
      coefficients = All-weaker (λ (u : ℤ × Var). unsigned_abs u.0 ≤ 1000000000000) (λ u. unsigned_abs u.0 < 2 ^ 63) (λ u l. within (unsigned_abs u.0) l) (combined_terms n t.shares) small.coefficients;
      measure_limit = omega arith;
      constant = omega arith;
      size = omega arith;
      ordered = ordered;
    }

pub sums_measured : (m : Lists) → ∥ IsWellFormedModel m ∥₁ → All (IsMeasured (graph_instance m)) (sum_expressions m)
sums_measured m well =
    let xs = range_with_len 0 (length m.sums) in
    let count = own_count m in
    All-map (IsMeasured (graph_instance m)) (λ sum. expression_of (truth_variables m) (sum_total m sum)) xs
    (λ k d l.
    let sum = get_or xs k d in
    small_measured (graph_instance m) (truth_variables m) (sum_total m sum) (omega arith) (sum_small m well sum)
    (unmapped (sum_range m) xs (sums_ordered m well) k d l))

pub objectives_measured : (m : Lists) (pairs : List Pair) → ∥ IsWellFormedModel m ∥₁ → All (IsMeasured (choices_instance m)) (objective_expressions m pairs)
objectives_measured m pairs well =
    let count = choices_count m in
    All-map (IsMeasured (choices_instance m)) (λ o. expression_of (first_objective m) (objective_total m pairs o)) m.objectives
    (λ k d l.
    let o = get_or m.objectives k d in
    small_measured (choices_instance m) (first_objective m) (objective_total m pairs o) (omega arith) (objective_small m pairs well k d l)
    (unmapped (objective_range m pairs) m.objectives (objectives_ordered m pairs well) k d l))

-- ---- expressions that define variables

pub ranges_ordered : (p : Instance) (es : List Expression) → All (IsMeasured p) es → All (λ (r : Range). r.0 ≤ℤ r.1) (map (expression_range p.bounds) es)
ranges_ordered p es measured =
    All-map (λ (r : Range). r.0 ≤ℤ r.1) (expression_range p.bounds) es (λ k d l. (measured k d l).ordered)

pub variables_within : (n k : ℕ) (variables : List ℕ) → variables ≡ range_with_len n k → All (λ v. v < n + k) variables
variables_within n k variables are =
    subst (λ (vs : List ℕ). All (λ v. v < n + k) vs) (sym are) (all_ranged (λ v. v < n + k) n k (λ j l. omega arith))

defining : (p : Instance) (v : ℕ) (e : Expression) → var_count p ≤ v → IsMeasured p e → IsDefining v e
defining p v e l h =
    let constant = h.constant in
    record { terms = terms_wider (var_count p) v l e.terms h.terms; coefficients = h.coefficients; constant = omega arith }

pub all_defining : (p : Instance) (es : List Expression) (variables : List ℕ) → All (IsMeasured p) es → variables ≡ range_with_len (var_count p) (length es) → All (λ v. All (IsDefining v) es) variables
all_defining p es variables measured are =
    subst (λ (vs : List ℕ). All (λ v. All (IsDefining v) es) vs) (sym are)
    (all_ranged (λ v. All (IsDefining v) es) (var_count p) (length es)
    (λ j l. All-weaker (IsMeasured p) (IsDefining (var_count p + j)) (λ e h. defining p (var_count p + j) e (omega arith) h) es measured))

pub rows_numbered : (p : Instance) (es : List Expression) (variables : List ℕ) → variables ≡ range_with_len (var_count p) (length es) → flat_map defining_rows (zip variables es) ≡ flat_map defining_rows (enumerate_from (var_count p) es)
rows_numbered p es variables are =
    ap (λ (vs : List ℕ). flat_map defining_rows (zip vs es)) are
    ∙ ap (λ (xs : List (ℕ × Expression)). flat_map defining_rows xs) (zipped (var_count p) es)

pub defined_count : (p : Instance) (es : List Expression) → var_count (with_defined p es) ≡ var_count p + length es
defined_count p es =
    ranges_count p (map (expression_range p.bounds) es) ∙ ap (λ (k : ℕ). var_count p + k) (length-map es (expression_range p.bounds))

pub rows_few : (m : Lists) → ∥ IsWellFormedModel m ∥₁ → length (choices_instance m).rows < 2 ^ 31
rows_few m well =
    let few = (few_parts m well).rows in
    let both = length-append (sum_rows m) (model_rules_part m).rows in
    omega arith

-- ---- preferences

pub preferences_fit : (m : Lists) → ∥ IsWellFormedModel m ∥₁ → CanTake (with_ranges (rules_instance m) (bits (length m.prefers))) (preferences_written m)
preferences_fit m well =
    let few = (few_parts m well).clauses in
    let p = with_ranges (rules_instance m) (bits (length m.prefers)) in
    let count : var_count p ≡ first_objective m =
    ranges_count (rules_instance m) (bits (length m.prefers))
    ∙ ap (λ (n : ℕ). n + length (bits (length m.prefers))) (rules_count m)
    ∙ ap (λ (k : ℕ). first_preference m + k) (bits_long (length m.prefers)) in
    let both = length-append (graph_clauses m) (map without_repeats (model_rules_part m).clauses) in
    let own = length-map (model_rules_part m).clauses without_repeats in
    record {
      known = subst (λ (n : ℕ). All (IsClauseOf n) (preferences_written m)) (sym count) (preferences_known m well);
      room = omega arith;
    }

pub preferences_zipped : (m : Lists) (variables : List ℕ) → variables ≡ range_with_len (first_preference m) (length m.prefers) → flat_map (preference_clauses m) (zip variables m.prefers) ≡ preferences_written m
preferences_zipped m variables are =
    ap (λ (vs : List ℕ). flat_map (preference_clauses m) (zip vs m.prefers)) are
    ∙ ap (λ (ps : List (ℕ × Preference)). flat_map (preference_clauses m) ps) (zipped (first_preference m) m.prefers)
