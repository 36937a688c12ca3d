-- The values of a realization are a solution of the model's problem that decodes to it.
use Rattle.std.proofs.Common.{◌≡◌, ℕ, zero, suc, ◌+◌, ◌-◌, ◌<◌, Bool, true, false, cond, not, IsTrue, List, [], ◌∷◌, ◌++◌, length, get_or, map, refl, sym, ap, ◌∙◌, subst, ⊎_elim, arith}
use Rattle.std.specs.Prelude.{ℤ, pos, ◌≤ℤ◌, int_le, slice_index_or}
use Rattle.std.specs.List.{range_with_len}
use Rattle.std.proofs.lemmas.Bool.{cases_lt}
use Rattle.std.proofs.lemmas.Int.{ints}
use Rattle.std.proofs.lemmas.List.{ext_get_or, get_or-append-add, get_or-map, get_or_append_left, get_or_push, length-append, length-map, length_push}
use Rattle.std.proofs.lemmas.List.Elements.{All-append}
use Rattle.std.proofs.lemmas.List.FromFn.{get_or-map-range_with_len, get_or-range_with_len, length-map-range_with_len, length-range_with_len}
use Rattle.cgm_atom.specs.declared.constraints.Clause.{Clause}
use Rattle.cgm_atom.specs.declared.constraints.Row.{Row}
use Rattle.cgm_atom.specs.Atoms.{clause_true, row_true}
use Rattle.cgm_atom.specs.Bounds.{value_of}
use Rattle.cgm_atom.specs.Building.{without_repeats}
use Rattle.cgm_atom.specs.Instance.{IsSolution}
use Rattle.cgm_atom.specs.Literals.{bit, truth_at}
use Rattle.cgm_formula.specs.declared.assignment.Assignment.{Assignment}
use Rattle.cgm_formula.specs.declared.formula.Number.TheVariants as number
use Rattle.cgm_formula.specs.declared.formula.Truth.{Truth}
use Rattle.cgm_formula.specs.declared.formula.Truth.TheVariants.{Element, Refinement}
use Rattle.cgm_formula.specs.Reading.{name_in}
use Rattle.cgm_model.specs.declared.lists.Lists.{Lists}
use Rattle.cgm_model.specs.declared.lists.Objective.{Objective}
use Rattle.cgm_model.specs.declared.lists.Preference.{Preference}
use Rattle.cgm_model.specs.Assignment.{Fits, IsWithinBounds as IsWithinVariable}
use Rattle.cgm_model.specs.Formulas.{IsKnownTruth}
use Rattle.cgm_base.specs.Place.{EachFrom}
use Rattle.cgm_model.specs.Sums.{sum_value, sums_of}
use Rattle.cgm_model.specs.TruthVariables.{truth_variables, variable_of}
use Rattle.cgm_model.specs.WellFormed.{IsWellFormedModel}
use Rattle.cgm_model.proofs.Sizes.{sum_at}
use Rattle.cgm_evolve.specs.Pairs.{Pair}
use Rattle.cgm_obj.specs.Counts.{is_met}
use Rattle.cgm_obj.specs.Least.{Realizes}
use Rattle.cgm_obj.specs.Vector.{objective_number, vector_of}
use Rattle.cgm_enc_formula.specs.Definitions.{AreDefined, AreDefinitionsFrom, Definition, definition_true}
use Rattle.cgm_enc_formula.specs.Laws.{ExtendedAreDefined, RuleDefinitionsAreKnown, RulesPartMeansRules, StandForNumbers, extended}
use Rattle.cgm_enc_formula.specs.Rules.{rule_definitions}
use Rattle.cgm_enc_formula.specs.Terms.{model_variables, number_variable}
use Rattle.cgm_enc_formula.proofs.Extending.{definition_agrees, extended_keeps}
use Rattle.cgm_enc_graph.specs.GraphClauses.{graph_clauses}
use Rattle.cgm_enc_graph.proofs.GraphTruths.{graph_means, realization_keeps}
use Rattle.cgm_encode.specs.Assignments.{choice_values, decoded, extension, number_values, rule_values}
use Rattle.cgm_encode.specs.Laws.{ExtendsTo}
use Rattle.cgm_encode.specs.Problem.{all_ranges, bits, choice_ranges, model_rules_part, number_ranges, objective_range, objective_rows, own_range, own_ranges, preferences_written, problem_of, rule_ranges, sum_range, sum_rows}
use Rattle.cgm_encode.specs.Quantities.{objective_total, sum_total}
use Rattle.cgm_encode.specs.Totals.{Range, total_value}
use Rattle.cgm_encode.specs.Variables.{first_objective, first_preference, naming_count, variable_total}
use Rattle.cgm_encode.proofs.Activities.{total_between}
use Rattle.cgm_encode.proofs.Boxes.{Lies, within_box}
use Rattle.cgm_encode.proofs.Decoding.{vector_is}
use Rattle.cgm_encode.proofs.GroupPlaces.{each_joined, each_of, each_of_same, each_to_mapped, each_weaker, moved}
use Rattle.cgm_encode.proofs.KnownParts.{HasKnownParts, known_parts}
use Rattle.cgm_encode.proofs.Meanings.{IsObjectiveValue, IsUnmet, objectives_met, preferences_met, stand, sums_met, truth_of_bit, written_as_true}
use Rattle.cgm_encode.proofs.QuantityValues.{AreNumbers, IsPreferenceValue, objective_is, sum_is}
use Rattle.cgm_encode.proofs.RangeCounts.{all_long, bits_long, choices_long, numbers_long, own_long, rules_long}
use Rattle.cgm_encode.proofs.Shares.{objective_shares, sum_shares}

-- ---- lists of values

-- the value at a place behind others
behind : (xs ys : List ℤ) (n k : ℕ) → length xs ≡ n → value_of (xs ++ ys) (n + k) ≡ value_of ys k
behind xs ys n k e = subst (λ (i : ℕ). value_of (xs ++ ys) (i + k) ≡ value_of ys k) e (get_or-append-add xs ys k (pos 0))

bit_lies : (values : List ℤ) (x : ℕ) (b : Bool) → value_of values x ≡ bit b → Lies values x (pos 0, pos 1)
bit_lies values x true h = (subst (λ (z : ℤ). pos 0 ≤ℤ z) (sym h) (omega (arith, ints)), subst (λ (z : ℤ). z ≤ℤ pos 1) (sym h) (omega (arith, ints)))
bit_lies values x false h = (subst (λ (z : ℤ). pos 0 ≤ℤ z) (sym h) (omega (arith, ints)), subst (λ (z : ℤ). z ≤ℤ pos 1) (sym h) (omega (arith, ints)))

-- ---- naming variables

extended_long : (values : List ℤ) (ds : List Definition) → length (extended values ds) ≡ length values + length ds
extended_long values [] = omega arith
extended_long values (d ∷ ds) =
    let z : ℤ = cond (definition_true values d) (pos 1) (pos 0) in
    let rest = extended_long (values ++ z ∷ []) ds in
    let more = length_push values z in
    omega arith

record IsBitAt (values : List ℤ) (x : ℕ) : Type 0 where
  truth : Bool
  is : value_of values x ≡ bit truth

extended_bits : (values : List ℤ) (ds : List Definition) (k : ℕ) → k < length ds → IsBitAt (extended values ds) (length values + k)
extended_bits values [] k l = absurd (omega arith)
extended_bits values (d ∷ ds) zero l =
    let z : ℤ = cond (definition_true values d) (pos 1) (pos 0) in
    let more = values ++ z ∷ [] in
    let long = length_push values z in
    let here : value_of (extended more ds) (length values) ≡ z = extended_keeps more ds (length values) (omega arith) ∙ get_or_push values z (pos 0) (length values) refl in
    record { truth = definition_true values d; is = ap (λ n. value_of (extended more ds) n) (no_more (length values)) ∙ here }
  where
    no_more : (n : ℕ) → n + 0 ≡ n
    no_more n = omega arith
extended_bits values (d ∷ ds) (suc k) l =
    let z : ℤ = cond (definition_true values d) (pos 1) (pos 0) in
    let more = values ++ z ∷ [] in
    let long = length_push values z in
    moved (λ n. IsBitAt (extended more ds) n) (length more + k) (length values + suc k) (omega arith) (extended_bits more ds k (omega arith))

-- definitions stay true where values agree on their variables
defined_still : (values others : List ℤ) (n : ℕ) (ds : List Definition) → ((x : ℕ) → x < n + length ds → value_of values x ≡ value_of others x) → AreDefinitionsFrom n ds → AreDefined values n ds → AreDefined others n ds
defined_still values others n [] same known h = tt
defined_still values others n (d ∷ ds) same known h = (
  sym (ap (λ (z : ℤ). int_le (pos 1) z) (same n (omega arith))) ∙ h.0 ∙ definition_agrees values others n (λ x l. same x (omega arith)) d known.0,
  defined_still values others (n + 1) ds (λ x l. same x (omega arith)) known.1 h.1,
)

module _ (m : Lists) (pairs : List Pair) (a : Assignment) (fits : Fits m a) where
  abbrev elements : List ℤ
  elements = map bit a.elements

  abbrev refinements : List ℤ
  refinements = map bit a.refinements

  abbrev truths : List ℤ
  truths = elements ++ refinements

  abbrev own : List ℤ
  own = truths ++ a.vars

  abbrev numbers : List ℤ
  numbers = number_values m a

  abbrev definitions : List Definition
  definitions = rule_definitions m (model_variables m) m.rules

  abbrev prefers : List ℤ
  prefers = map (λ p. bit (not (is_met a p))) m.prefers

  elements_long : length elements ≡ length m.elements
  elements_long = length-map a.elements bit ∙ fits.elements

  truths_long : length truths ≡ truth_variables m
  truths_long =
      let both = length-append elements refinements in
      let last = length-map a.refinements bit in
      let first = elements_long in
      let fit = fits.refinements in
      omega arith

  own_values_long : length own ≡ truth_variables m + length m.vars
  own_values_long =
      let both = length-append truths a.vars in
      let first = truths_long in
      let fit = fits.vars in
      omega arith

  pub numbers_values_long : length numbers ≡ model_variables m
  numbers_values_long =
      let both = length-append own (sums_of m a) in
      let first = own_values_long in
      let last = length-map-range_with_len (sum_value m a) 0 (length m.sums) in
      omega arith

  rule_values_long : length (rule_values m a) ≡ first_preference m
  rule_values_long =
      let all = extended_long numbers definitions in
      let first = numbers_values_long in
      omega arith

  choice_values_long : length (choice_values m a) ≡ first_objective m
  choice_values_long =
      let both = length-append (rule_values m a) prefers in
      let first = rule_values_long in
      let last = length-map m.prefers (λ p. bit (not (is_met a p))) in
      omega arith

  vector_values_long : length (vector_of m pairs a) ≡ length m.objectives
  unfolding vector_of
  vector_values_long = length-map m.objectives (objective_number m pairs a)

  extension_long : length (extension m pairs a) ≡ variable_total m
  unfolding extension
  extension_long =
      let both = length-append (choice_values m a) (vector_of m pairs a) in
      let first = choice_values_long in
      let last = vector_values_long in
      omega arith

  -- ---- what stays of the values before

  choice_at : (x : ℕ) → x < first_objective m → value_of (extension m pairs a) x ≡ value_of (choice_values m a) x
  unfolding extension
  choice_at x l = let long = choice_values_long in get_or_append_left (choice_values m a) (vector_of m pairs a) (pos 0) x (omega arith)

  rule_at : (x : ℕ) → x < first_preference m → value_of (extension m pairs a) x ≡ value_of (rule_values m a) x
  rule_at x l = let long = rule_values_long in choice_at x (omega arith) ∙ get_or_append_left (rule_values m a) prefers (pos 0) x (omega arith)

  pub number_at : (x : ℕ) → x < model_variables m → value_of (extension m pairs a) x ≡ value_of numbers x
  number_at x l = let long = numbers_values_long in rule_at x (omega arith) ∙ extended_keeps numbers definitions x (omega arith)

  own_at : (x : ℕ) → x < truth_variables m + length m.vars → value_of (extension m pairs a) x ≡ value_of own x
  own_at x l = let long = own_values_long in number_at x (omega arith) ∙ get_or_append_left own (sums_of m a) (pos 0) x (omega arith)

  truth_value_at : (x : ℕ) → x < truth_variables m → value_of (extension m pairs a) x ≡ value_of truths x
  truth_value_at x l = let long = truths_long in own_at x (omega arith) ∙ get_or_append_left truths a.vars (pos 0) x (omega arith)

  -- ---- each group

  pub extension_names : (t : Truth) → IsKnownTruth m t → value_of (extension m pairs a) (variable_of m t) ≡ bit (name_in a t)
  extension_names (Element k) l =
      let long = elements_long in
      let fit = fits.elements in
      truth_value_at k (omega arith) ∙ get_or_append_left elements refinements (pos 0) k (omega arith) ∙ get_or-map bit a.elements k false (pos 0) (omega arith)
  extension_names (Refinement k) l =
      let fit = fits.refinements in
      truth_value_at (length m.elements + k) (omega arith) ∙ behind elements refinements (length m.elements) k elements_long ∙ get_or-map bit a.refinements k false (pos 0) (omega arith)

  pub extension_var : (k : ℕ) → k < length m.vars → value_of (extension m pairs a) (truth_variables m + k) ≡ slice_index_or a.vars k (pos 0)
  extension_var k l = own_at (truth_variables m + k) (omega arith) ∙ behind truths a.vars (truth_variables m) k truths_long

  pub extension_sum : (k : ℕ) → k < length m.sums → value_of (extension m pairs a) (number_variable m (number.Sum k)) ≡ slice_index_or (sums_of m a) k (pos 0)
  extension_sum k l = number_at (number_variable m (number.Sum k)) (omega arith) ∙ behind own (sums_of m a) (truth_variables m + length m.vars) k own_values_long

  extension_numbers : AreNumbers m (extension m pairs a) a
  extension_numbers = record { vars = extension_var; sums = extension_sum }

  extension_bit : (k : ℕ) → k < naming_count m → IsBitAt (extension m pairs a) (model_variables m + k)
  extension_bit k l =
      let long = numbers_values_long in
      let x = model_variables m + k in
      let at : IsBitAt (rule_values m a) x = moved (λ n. IsBitAt (rule_values m a) n) (length numbers + k) x (omega arith) (extended_bits numbers definitions k l) in
      record { truth = at.truth; is = rule_at x (omega arith) ∙ at.is }

  extension_prefer : (k : ℕ) (d : Preference) → k < length m.prefers → value_of (extension m pairs a) (first_preference m + k) ≡ bit (not (is_met a (get_or m.prefers k d)))
  extension_prefer k d l =
      choice_at (first_preference m + k) (omega arith)
      ∙ behind (rule_values m a) prefers (first_preference m) k rule_values_long
      ∙ get_or-map (λ p. bit (not (is_met a p))) m.prefers k d (pos 0) l

  extension_prefers : EachFrom (first_preference m) (IsPreferenceValue (extension m pairs a) a) m.prefers
  extension_prefers = each_of (IsPreferenceValue (extension m pairs a) a) (first_preference m) m.prefers extension_prefer

  extension_objective : (k : ℕ) (d : Objective) → k < length m.objectives → value_of (extension m pairs a) (first_objective m + k) ≡ objective_number m pairs a (get_or m.objectives k d)
  unfolding extension vector_of
  extension_objective k d l =
      behind (choice_values m a) (vector_of m pairs a) (first_objective m) k choice_values_long
      ∙ get_or-map (objective_number m pairs a) m.objectives k d (pos 0) l

  extension_objectives : EachFrom (first_objective m) (IsObjectiveValue m pairs (extension m pairs a) a) m.objectives
  extension_objectives = each_of (IsObjectiveValue m pairs (extension m pairs a) a) (first_objective m) m.objectives extension_objective

  -- ---- back

  decoded_elements : map (truth_at (extension m pairs a)) (range_with_len 0 (length m.elements)) ≡ a.elements
  decoded_elements =
      let f = truth_at (extension m pairs a) in
      let n = length m.elements in
      ext_get_or false (map f (range_with_len 0 n)) a.elements (length-map-range_with_len f 0 n ∙ sym fits.elements)
      (λ k l.
      let long = length-map-range_with_len f 0 n in
      get_or-map-range_with_len f 0 n k k false (omega arith) (omega arith)
      ∙ truth_of_bit (extension m pairs a) k (slice_index_or a.elements k false) (extension_names (Element k) (omega arith)))

  decoded_refinements : map (truth_at (extension m pairs a)) (range_with_len (length m.elements) (length m.refinements)) ≡ a.refinements
  decoded_refinements =
      let f = truth_at (extension m pairs a) in
      let first = length m.elements in
      let n = length m.refinements in
      ext_get_or false (map f (range_with_len first n)) a.refinements (length-map-range_with_len f first n ∙ sym fits.refinements)
      (λ k l.
      let long = length-map-range_with_len f first n in
      get_or-map-range_with_len f first n k (first + k) false (omega arith) refl
      ∙ truth_of_bit (extension m pairs a) (first + k) (slice_index_or a.refinements k false) (extension_names (Refinement k) (omega arith)))

  decoded_vars : map (value_of (extension m pairs a)) (range_with_len (truth_variables m) (length m.vars)) ≡ a.vars
  decoded_vars =
      let f = value_of (extension m pairs a) in
      let first = truth_variables m in
      let n = length m.vars in
      ext_get_or (pos 0) (map f (range_with_len first n)) a.vars (length-map-range_with_len f first n ∙ sym fits.vars)
      (λ k l.
      let long = length-map-range_with_len f first n in
      get_or-map-range_with_len f first n k (first + k) (pos 0) (omega arith) refl ∙ extension_var k (omega arith))

  decoded_back : decoded m (extension m pairs a) ≡ a
  unfolding decoded
  decoded_back =
      let es = map (truth_at (extension m pairs a)) (range_with_len 0 (length m.elements)) in
      let rs = map (truth_at (extension m pairs a)) (range_with_len (length m.elements) (length m.refinements)) in
      let with : List Bool → List Bool → List ℤ → Assignment = λ e r v. record { elements = e; refinements = r; vars = v } in
      ap (λ (v : List ℤ). with es rs v) decoded_vars
      ∙ ap (λ (r : List Bool). with es r a.vars) decoded_refinements
      ∙ ap (λ (e : List Bool). with e a.refinements a.vars) decoded_elements

  -- ---- within the bounds

  truths_lie : EachFrom 0 (Lies (extension m pairs a)) (bits (truth_variables m))
  truths_lie =
      let values = extension m pairs a in
      each_of_same (Lies values) 0 (truth_variables m) (pos 0, pos 1)
      (λ k l.
      moved (λ x. Lies values x (pos 0, pos 1)) k (0 + k) (omega arith)
      (⊎_elim
      (λ element. bit_lies values k (name_in a (Element k)) (extension_names (Element k) element))
      (λ past.
      let r = k - length m.elements in
      moved (λ x. Lies values x (pos 0, pos 1)) (length m.elements + r) k (omega arith)
      (bit_lies values (length m.elements + r) (name_in a (Refinement r)) (extension_names (Refinement r) (omega arith))))
      (cases_lt k (length m.elements))))

  vars_lie : EachFrom (truth_variables m) (Lies (extension m pairs a)) (map own_range m.vars)
  vars_lie =
      let values = extension m pairs a in
      let first = truth_variables m in
      each_to_mapped (Lies values) own_range first m.vars
      (each_weaker (IsWithinVariable a.vars) (λ x v. Lies values x (own_range v)) 0 first m.vars
      (λ k d l h.
      let v = get_or m.vars k d in
      let at : slice_index_or a.vars (0 + k) (pos 0) ≡ value_of values (first + k) = ap (λ n. slice_index_or a.vars n (pos 0)) (from_zero k) ∙ sym (extension_var k l) in
      (subst (λ (z : ℤ). v.lo ≤ℤ z) at h.low, subst (λ (z : ℤ). z ≤ℤ v.hi) at h.high))
      fits.bounds)
    where
      from_zero : (k : ℕ) → 0 + k ≡ k
      from_zero k = omega arith

  own_lie : EachFrom 0 (Lies (extension m pairs a)) (own_ranges m)
  own_lie =
      let P = Lies (extension m pairs a) in
      let first = bits (truth_variables m) in
      let long = bits_long (truth_variables m) in
      each_joined P 0 first (map own_range m.vars) truths_lie
      (moved (λ n. EachFrom n P (map own_range m.vars)) (truth_variables m) (0 + length first) (omega arith) vars_lie)

  names_lie : EachFrom (model_variables m) (Lies (extension m pairs a)) (bits (naming_count m))
  names_lie =
      let values = extension m pairs a in
      each_of_same (Lies values) (model_variables m) (naming_count m) (pos 0, pos 1)
      (λ k l. let at = extension_bit k l in bit_lies values (model_variables m + k) at.truth at.is)

  prefers_lie : EachFrom (first_preference m) (Lies (extension m pairs a)) (bits (length m.prefers))
  prefers_lie =
      let values = extension m pairs a in
      let none : Preference = record { better = Element 0; worse = Element 0 } in
      each_of_same (Lies values) (first_preference m) (length m.prefers) (pos 0, pos 1)
      (λ k l. bit_lies values (first_preference m + k) (not (is_met a (get_or m.prefers k none))) (extension_prefer k none l))

  module _ (parts : HasKnownParts m) where
    sums_lie : EachFrom (truth_variables m + length m.vars) (Lies (extension m pairs a)) (map (sum_range m) (range_with_len 0 (length m.sums)))
    sums_lie =
        let values = extension m pairs a in
        let first = truth_variables m + length m.vars in
        let n = length m.sums in
        let xs = range_with_len 0 n in
        let long = own_long m in
        each_to_mapped (Lies values) (sum_range m) first xs
        (each_of (λ x sum. Lies values x (sum_range m sum)) first xs
        (λ k d l.
        let count = length-range_with_len 0 n in
        let at : k ≡ get_or xs k d = from_zero k ∙ sym (get_or-range_with_len 0 n k d (omega arith)) in
        let is : total_value values (sum_total m k) ≡ value_of values (first + k) =
        sum_is m values a parts extension_names k ∙ sym (sum_at m a k (omega arith)) ∙ sym (extension_sum k (omega arith)) in
        let between = total_between values (own_ranges m) (truth_variables m) (sum_total m k) (omega arith) own_lie (sum_shares m parts k) in
        let here : Lies values (first + k) (sum_range m k) = (
          subst (λ (z : ℤ). (sum_range m k).0 ≤ℤ z) is between.0,
          subst (λ (z : ℤ). z ≤ℤ (sum_range m k).1) is between.1,
        ) in
        moved (λ sum. Lies values (first + k) (sum_range m sum)) k (get_or xs k d) at here))
      where
        from_zero : (k : ℕ) → k ≡ 0 + k
        from_zero k = omega arith

    choices_lie : EachFrom 0 (Lies (extension m pairs a)) (choice_ranges m)
    choices_lie =
        let P = Lies (extension m pairs a) in
        let sums = map (sum_range m) (range_with_len 0 (length m.sums)) in
        let names = bits (naming_count m) in
        let unmet = bits (length m.prefers) in
        let long_own = own_long m in
        let long_numbers = numbers_long m in
        let long_rules = rules_long m in
        let with_sums = each_joined P 0 (own_ranges m) sums own_lie (moved (λ n. EachFrom n P sums) (truth_variables m + length m.vars) (0 + length (own_ranges m)) (omega arith) sums_lie) in
        let with_names = each_joined P 0 (number_ranges m) names with_sums (moved (λ n. EachFrom n P names) (model_variables m) (0 + length (number_ranges m)) (omega arith) names_lie) in
        each_joined P 0 (rule_ranges m) unmet with_names (moved (λ n. EachFrom n P unmet) (first_preference m) (0 + length (rule_ranges m)) (omega arith) prefers_lie)

    objectives_lie : EachFrom (first_objective m) (Lies (extension m pairs a)) (map (objective_range m pairs) m.objectives)
    objectives_lie =
        let values = extension m pairs a in
        let first = first_objective m in
        let long = choices_long m in
        each_to_mapped (Lies values) (objective_range m pairs) first m.objectives
        (each_of (λ x o. Lies values x (objective_range m pairs o)) first m.objectives
        (λ k d l.
        let o = get_or m.objectives k d in
        let is : total_value values (objective_total m pairs o) ≡ value_of values (first + k) =
        objective_is m values a parts extension_names pairs o (parts.objectives k d l) extension_numbers extension_prefers ∙ sym (extension_objective k d l) in
        let between = total_between values (choice_ranges m) first (objective_total m pairs o) (omega arith) choices_lie (objective_shares m parts pairs o (parts.objectives k d l)) in (
          subst (λ (z : ℤ). (objective_range m pairs o).0 ≤ℤ z) is between.0,
          subst (λ (z : ℤ). z ≤ℤ (objective_range m pairs o).1) is between.1,
        )))

    all_lie : EachFrom 0 (Lies (extension m pairs a)) (all_ranges m pairs)
    all_lie =
        let P = Lies (extension m pairs a) in
        let last = map (objective_range m pairs) m.objectives in
        let long = choices_long m in
        each_joined P 0 (choice_ranges m) last choices_lie (moved (λ n. EachFrom n P last) (first_objective m) (0 + length (choice_ranges m)) (omega arith) objectives_lie)

-- ---- the laws on rules that the rest stands on

pub record RuleLaws : Type 0 where
  pub mean : RulesPartMeansRules
  pub defined : ExtendedAreDefined
  pub known : RuleDefinitionsAreKnown

module _ (laws : RuleLaws) (m : Lists) (pairs : List Pair) (a : Assignment) (well : ∥ IsWellFormedModel m ∥₁) (r : Realizes m a) where
  definitions_hold : AreDefined (extension m pairs a) (model_variables m) (rule_definitions m (model_variables m) m.rules)
  definitions_hold =
      let n = model_variables m in
      let ds = rule_definitions m n m.rules in
      let before = number_values m a in
      let long = numbers_values_long m pairs a r.fits in
      let known = laws.known m n well (omega arith) in
      let known_there : AreDefinitionsFrom (length before) ds = moved (λ i. AreDefinitionsFrom i ds) n (length before) (sym long) known in
      let here : AreDefined (rule_values m a) n ds = moved (λ i. AreDefined (rule_values m a) i ds) (length before) n long (laws.defined before ds known_there) in
      defined_still (rule_values m a) (extension m pairs a) n ds (λ x l. sym (rule_at m pairs a r.fits x l)) known here

  solution : IsSolution (problem_of m pairs) (extension m pairs a)
  unfolding problem_of
  solution =
      let values = extension m pairs a in
      let P : Clause → Type 0 = λ c. IsTrue (clause_true values c) in
      let Q : Row → Type 0 = λ q. IsTrue (row_true values q) in
      let parts = known_parts m well in
      let names = extension_names m pairs a r.fits in
      let stands = stand m values a parts names in
      let numbers = extension_numbers m pairs a r.fits in
      let prefers = extension_prefers m pairs a r.fits in
      let keeps = (realization_keeps m a (sums_of m a)).0 r.keeps in
      let stand_for : StandForNumbers m values a (sums_of m a) = record { variables = λ k l. sym (numbers.vars k l); totals = λ k l. sym (numbers.sums k l) } in
      let rules = (laws.mean m values a (sums_of m a) (model_variables m) well stands stand_for).1 (definitions_hold, keeps.1) in
      let graph = (graph_means m values a well stands).1 keeps.0 in
      let unmet = each_weaker (IsPreferenceValue values a) (IsUnmet values a) (first_preference m) (first_preference m) m.prefers
      (λ k d l h. truth_of_bit values (first_preference m + k) (not (is_met a (get_or m.prefers k d))) h) prefers in
      let preferences = (preferences_met m values a parts names).1 unmet in
      let sums = (sums_met m values a parts names).1 numbers.sums in
      let objectives = (objectives_met m values a parts names pairs numbers prefers).1 (extension_objectives m pairs a r.fits) in
      let of_rules = model_rules_part m in
      let long : length values ≡ length (all_ranges m pairs) = extension_long m pairs a r.fits ∙ sym (all_long m pairs) in
      let same : length (map (λ (q : Range). q.0) (all_ranges m pairs)) ≡ length (all_ranges m pairs) = length-map (all_ranges m pairs) (λ (q : Range). q.0) in
      record {
        count = long ∙ sym same;
        within = within_box values (all_ranges m pairs) long (all_lie m pairs a r.fits parts);
        clauses = All-append P (graph_clauses m ++ map without_repeats of_rules.clauses) (map without_repeats (preferences_written m))
            (All-append P (graph_clauses m) (map without_repeats of_rules.clauses) graph (written_as_true values of_rules.clauses rules.clauses))
            (written_as_true values (preferences_written m) preferences);
        rows = All-append Q (sum_rows m ++ of_rules.rows) (objective_rows m pairs) (All-append Q (sum_rows m) of_rules.rows sums rules.rows) objectives;
      }

  pub realization_extends : ExtendsTo m pairs a (extension m pairs a)
  realization_extends = record {
    solution = solution;
    assignment = decoded_back m pairs a r.fits;
    vector = vector_is m pairs (extension m pairs a) a (extension_objectives m pairs a r.fits);
  }
