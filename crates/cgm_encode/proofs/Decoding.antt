-- A solution of a model's problem decodes to a realization with the vector of its objective values.
use Rattle.std.proofs.Common.{◌≡◌, ℕ, ◌+◌, ◌<◌, Bool, true, false, IsTrue, List, [], ◌∷◌, ◌++◌, length, get_or, map, refl, sym, ap, ◌∙◌, subst, arith}
use Rattle.std.specs.Prelude.{ℤ, pos, ◌≤ℤ◌, int_le, slice_index_or}
use Rattle.std.specs.List.{range_with_len}
use Rattle.std.proofs.lemmas.Int.{ints}
use Rattle.std.proofs.lemmas.List.FromFn.{get_or-map-range_with_len, length-map-range_with_len}
use Rattle.cgm_atom.specs.declared.constraints.Clause.{Clause}
use Rattle.cgm_atom.specs.declared.constraints.Row.{Row}
use Rattle.cgm_atom.specs.Atoms.{clause_true, row_true}
use Rattle.cgm_atom.specs.Bounds.{value_of}
use Rattle.cgm_atom.specs.Building.{without_repeats}
use Rattle.cgm_atom.specs.Instance.{IsSolution, values_at, vector}
use Rattle.cgm_atom.specs.Literals.{bit, truth_at}
use Rattle.cgm_atom.proofs.Additions.{All-back, All-front}
use Rattle.cgm_formula.specs.declared.assignment.Assignment.{Assignment}
use Rattle.cgm_formula.specs.declared.formula.Number.TheVariants as number
use Rattle.cgm_formula.specs.declared.formula.Truth.{Truth}
use Rattle.cgm_formula.specs.declared.formula.Truth.TheVariants.{Element, Refinement}
use Rattle.cgm_formula.specs.Reading.{name_in}
use Rattle.cgm_model.specs.declared.lists.Lists.{Lists}
use Rattle.cgm_model.specs.declared.lists.Objective.{Objective}
use Rattle.cgm_model.specs.declared.lists.Variable.{Variable}
use Rattle.cgm_model.specs.Assignment.{Fits, IsWithinBounds as IsWithinVariable}
use Rattle.cgm_model.specs.Formulas.{IsKnownTruth}
use Rattle.cgm_base.specs.Place.{EachFrom}
use Rattle.cgm_model.specs.Sums.{sums_of}
use Rattle.cgm_model.specs.TruthVariables.{truth_variables, variable_of}
use Rattle.cgm_model.specs.WellFormed.{IsWellFormedModel}
use Rattle.cgm_evolve.specs.Pairs.{Pair}
use Rattle.cgm_obj.specs.Vector.{objective_number, vector_of}
use Rattle.cgm_enc_formula.specs.Laws.{MeetPart, RulesPartMeansRules, StandForNumbers}
use Rattle.cgm_enc_formula.specs.Terms.{model_variables, number_variable}
use Rattle.cgm_enc_graph.specs.GraphClauses.{graph_clauses}
use Rattle.cgm_enc_graph.proofs.GraphTruths.{graph_means, realization_keeps}
use Rattle.cgm_encode.specs.Assignments.{decoded}
use Rattle.cgm_encode.specs.Laws.{DecodesTo}
use Rattle.cgm_encode.specs.Problem.{all_ranges, bits, choice_ranges, model_rules_part, number_ranges, objective_range, objective_rows, own_range, own_ranges, preferences_written, problem_of, rule_ranges, sum_range, sum_rows}
use Rattle.cgm_encode.specs.Variables.{first_objective, first_preference, naming_count}
use Rattle.cgm_encode.proofs.Boxes.{Lies, each_lies}
use Rattle.cgm_encode.proofs.GroupPlaces.{each_back, each_front, each_mapped, each_same, each_weaker, moved}
use Rattle.cgm_encode.proofs.KnownParts.{known_parts}
use Rattle.cgm_encode.proofs.Meanings.{AreTrue, IsObjectiveValue, IsUnmet, objectives_met, preferences_met, stand, sums_met, true_as_written}
use Rattle.cgm_encode.proofs.QuantityValues.{AreNumbers, IsPreferenceValue}
use Rattle.cgm_encode.proofs.RangeCounts.{bits_long, rules_long}
use Rattle.cgm_encode.proofs.TotalRows.{AreMet}

bit_between : (v : ℤ) (t : Bool) → pos 0 ≤ℤ v → v ≤ℤ pos 1 → int_le (pos 1) v ≡ t → v ≡ bit t
bit_between v true low high e = omega (arith, ints)
bit_between v false low high e = omega (arith, ints)

-- a value of 0 or 1 is that of its truth
lies_bit : (values : List ℤ) (x : ℕ) → Lies values x (pos 0, pos 1) → value_of values x ≡ bit (truth_at values x)
lies_bit values x h = bit_between (value_of values x) (truth_at values x) h.0 h.1 refl

-- the bounds, by group
record AreWithinGroups (m : Lists) (values : List ℤ) : Type 0 where
  truths : (x : ℕ) → x < truth_variables m → value_of values x ≡ bit (truth_at values x)
  vars : EachFrom (truth_variables m) (λ x (v : Variable). Lies values x (own_range v)) m.vars
  prefers : (k : ℕ) → k < length m.prefers → value_of values (first_preference m + k) ≡ bit (truth_at values (first_preference m + k))

groups_within : (m : Lists) (pairs : List Pair) (values : List ℤ) → EachFrom 0 (Lies values) (all_ranges m pairs) → AreWithinGroups m values
groups_within m pairs values all =
    let P = Lies values in
    let t = truth_variables m in
    let vars = map own_range m.vars in
    let choice = each_front P 0 (choice_ranges m) (map (objective_range m pairs) m.objectives) all in
    let prefers : EachFrom (0 + length (rule_ranges m)) P (bits (length m.prefers)) = each_back P 0 (rule_ranges m) (bits (length m.prefers)) choice in
    let rule = each_front P 0 (rule_ranges m) (bits (length m.prefers)) choice in
    let numbers = each_front P 0 (number_ranges m) (bits (naming_count m)) rule in
    let own = each_front P 0 (own_ranges m) (map (sum_range m) (range_with_len 0 (length m.sums))) numbers in
    let truths = each_front P 0 (bits t) vars own in
    let long = bits_long t in
    let rules = rules_long m in
    let at_vars : EachFrom t P vars = moved (λ n. EachFrom n P vars) (0 + length (bits t)) t (omega arith) (each_back P 0 (bits t) vars own) in
    record {
      truths = λ x l. lies_bit values x (moved (λ n. P n (pos 0, pos 1)) (0 + x) x (omega arith) (each_same P 0 t (pos 0, pos 1) truths x l));
      vars = each_mapped P own_range t m.vars at_vars;
      prefers = λ k l.
          let n = length (rule_ranges m) in
          lies_bit values (first_preference m + k)
          (moved (λ i. P i (pos 0, pos 1)) (0 + n + k) (first_preference m + k) (omega arith) (each_same P (0 + n) (length m.prefers) (pos 0, pos 1) prefers k l));
    }

-- ---- the decoded assignment

decoded_element : (m : Lists) (values : List ℤ) (k : ℕ) → k < length m.elements → slice_index_or (decoded m values).elements k false ≡ truth_at values k
unfolding decoded
decoded_element m values k l = get_or-map-range_with_len (truth_at values) 0 (length m.elements) k k false l (omega arith)

decoded_refinement : (m : Lists) (values : List ℤ) (k : ℕ) → k < length m.refinements → slice_index_or (decoded m values).refinements k false ≡ truth_at values (length m.elements + k)
unfolding decoded
decoded_refinement m values k l = get_or-map-range_with_len (truth_at values) (length m.elements) (length m.refinements) k (length m.elements + k) false l refl

decoded_var : (m : Lists) (values : List ℤ) (k : ℕ) → k < length m.vars → slice_index_or (decoded m values).vars k (pos 0) ≡ value_of values (truth_variables m + k)
unfolding decoded
decoded_var m values k l = get_or-map-range_with_len (value_of values) (truth_variables m) (length m.vars) k (truth_variables m + k) (pos 0) l refl

decoded_fits : (m : Lists) (values : List ℤ) → EachFrom (truth_variables m) (λ x (v : Variable). Lies values x (own_range v)) m.vars → Fits m (decoded m values)
unfolding decoded
decoded_fits m values within = record {
  elements = length-map-range_with_len (truth_at values) 0 (length m.elements);
  refinements = length-map-range_with_len (truth_at values) (length m.elements) (length m.refinements);
  vars = length-map-range_with_len (value_of values) (truth_variables m) (length m.vars);
  bounds = each_weaker (λ x (v : Variable). Lies values x (own_range v)) (IsWithinVariable (decoded m values).vars) (truth_variables m) 0 m.vars
      (λ k d l h.
      let at : value_of values (truth_variables m + k) ≡ slice_index_or (decoded m values).vars (0 + k) (pos 0) =
      sym (decoded_var m values k l) ∙ ap (λ n. slice_index_or (decoded m values).vars n (pos 0)) (k_is k) in
      let v = get_or m.vars k d in
      record { low = subst (λ (z : ℤ). v.lo ≤ℤ z) at h.0; high = subst (λ (z : ℤ). z ≤ℤ v.hi) at h.1 })
      within;
}
  where
    k_is : (k : ℕ) → k ≡ 0 + k
    k_is k = omega arith

decoded_names : (m : Lists) (values : List ℤ) → AreWithinGroups m values → (t : Truth) → IsKnownTruth m t → value_of values (variable_of m t) ≡ bit (name_in (decoded m values) t)
decoded_names m values within (Element k) l = within.truths k (omega arith) ∙ ap bit (sym (decoded_element m values k l))
decoded_names m values within (Refinement k) l = within.truths (length m.elements + k) (omega arith) ∙ ap bit (sym (decoded_refinement m values k l))

-- ---- objective values

pub vector_at : (m : Lists) (pairs : List Pair) (values : List ℤ) (a : Assignment) (first : ℕ) (os : List Objective) → EachFrom first (IsObjectiveValue m pairs values a) os → values_at values (map (λ x. record { 0 = x }) (range_with_len first (length os))) ≡ map (objective_number m pairs a) os
vector_at m pairs values a first [] each = refl
vector_at m pairs values a first (o ∷ os) each =
    ap (λ (z : ℤ). z ∷ values_at values (map (λ x. record { 0 = x }) (range_with_len (first + 1) (length os)))) each.0
    ∙ ap (λ (zs : List ℤ). objective_number m pairs a o ∷ zs) (vector_at m pairs values a (first + 1) os each.1)

pub vector_is : (m : Lists) (pairs : List Pair) (values : List ℤ) (a : Assignment) → EachFrom (first_objective m) (IsObjectiveValue m pairs values a) m.objectives → vector (problem_of m pairs) values ≡ vector_of m pairs a
unfolding problem_of vector_of
vector_is m pairs values a each = vector_at m pairs values a (first_objective m) m.objectives each

-- ---- both

-- a solution, by group
record IsGroupSolution (m : Lists) (pairs : List Pair) (values : List ℤ) : Type 0 where
  within : EachFrom 0 (Lies values) (all_ranges m pairs)
  graph : AreTrue values (graph_clauses m)
  rules : MeetPart values (model_rules_part m)
  prefers : AreTrue values (preferences_written m)
  sums : AreMet values (sum_rows m)
  objectives : AreMet values (objective_rows m pairs)

solution_groups : (m : Lists) (pairs : List Pair) (values : List ℤ) → IsSolution (problem_of m pairs) values → IsGroupSolution m pairs values
unfolding problem_of
solution_groups m pairs values s =
    let P : Clause → Type 0 = λ c. IsTrue (clause_true values c) in
    let Q : Row → Type 0 = λ r. IsTrue (row_true values r) in
    let rules = model_rules_part m in
    let first = graph_clauses m ++ map without_repeats rules.clauses in
    let last = map without_repeats (preferences_written m) in
    let before = sum_rows m ++ rules.rows in
    let clauses = All-front P first last s.clauses in
    let rows = All-front Q before (objective_rows m pairs) s.rows in
    record {
      within = each_lies values (all_ranges m pairs) s.within;
      graph = All-front P (graph_clauses m) (map without_repeats rules.clauses) clauses;
      rules = record {
        clauses = true_as_written values rules.clauses (All-back P (graph_clauses m) (map without_repeats rules.clauses) clauses);
        rows = All-back Q (sum_rows m) rules.rows rows;
      };
      prefers = true_as_written values (preferences_written m) (All-back P first last s.clauses);
      sums = All-front Q (sum_rows m) rules.rows rows;
      objectives = All-back Q before (objective_rows m pairs) s.rows;
    }

module _ (law : RulesPartMeansRules) (m : Lists) (pairs : List Pair) (values : List ℤ) (well : ∥ IsWellFormedModel m ∥₁) (s : IsGroupSolution m pairs values) where
  decodes : DecodesTo m pairs values (decoded m values)
  decodes =
      let a = decoded m values in
      let parts = known_parts m well in
      let within = groups_within m pairs values s.within in
      let names = decoded_names m values within in
      let stands = stand m values a parts names in
      let sums = (sums_met m values a parts names).0 s.sums in
      let vars : (k : ℕ) → k < length m.vars → slice_index_or a.vars k (pos 0) ≡ value_of values (number_variable m (number.Var k)) = decoded_var m values in
      let numbers : AreNumbers m values a = record { vars = λ k l. sym (vars k l); sums = sums } in
      let stand_for : StandForNumbers m values a (sums_of m a) = record { variables = vars; totals = λ k l. sym (sums k l) } in
      let graph = (graph_means m values a well stands).0 s.graph in
      let rules = (law m values a (sums_of m a) (model_variables m) well stands stand_for).0 s.rules in
      let unmet = (preferences_met m values a parts names).0 s.prefers in
      let prefers : EachFrom (first_preference m) (IsPreferenceValue values a) m.prefers =
      each_weaker (IsUnmet values a) (IsPreferenceValue values a) (first_preference m) (first_preference m) m.prefers
      (λ k d l h. within.prefers k l ∙ ap bit h) unmet in
      let objectives = (objectives_met m values a parts names pairs numbers prefers).0 s.objectives in
      record {
        realizes = record { fits = decoded_fits m values within.vars; keeps = (realization_keeps m a (sums_of m a)).1 (graph, rules.1) };
        vector = vector_is m pairs values a objectives;
      }

pub solution_decodes : RulesPartMeansRules → (m : Lists) (pairs : List Pair) (values : List ℤ) → ∥ IsWellFormedModel m ∥₁ → IsSolution (problem_of m pairs) values → DecodesTo m pairs values (decoded m values)
solution_decodes law m pairs values well s = decodes law m pairs values well (solution_groups m pairs values s)
