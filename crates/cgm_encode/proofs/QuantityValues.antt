-- The totals of sums and quantities have their values, where values stand for an assignment.
use Rattle.std.proofs.Common.{◌≡◌, ℕ, ◌+◌, ◌<◌, ◌==◌, Bool, true, false, cond, not, ◌&&◌, List, [], ◌∷◌, ◌++◌, Option, None, Some, length, get_or, map, refl, sym, ap, ◌∙◌, arith}
use Rattle.std.specs.Prelude.{ℤ, pos, negsuc, neg_ℤ, ◌+ℤ◌, ◌-ℤ◌, ◌*ℤ◌, count_by, filter, slice_index_or}
use Rattle.std.specs.List.{All, range_with_len}
use Rattle.std.proofs.lemmas.Int.{ints}
use Rattle.std.proofs.lemmas.List.Elements.{All-filter}
use Rattle.std.proofs.lemmas.List.FromFn.{get_or-range_with_len, length-range_with_len}
use Rattle.std.proofs.lemmas.List.Sums.{length-filter}
use Rattle.cgm_atom.specs.Bounds.{value_of}
use Rattle.cgm_atom.specs.Literals.{bit}
use Rattle.cgm_formula.specs.declared.assignment.Assignment.{Assignment}
use Rattle.cgm_formula.specs.declared.formula.Number.TheVariants as number
use Rattle.cgm_formula.specs.declared.formula.Truth.{Truth}
use Rattle.cgm_formula.specs.declared.formula.Truth.TheVariants.{Element}
use Rattle.cgm_formula.specs.Reading.{name_in}
use Rattle.cgm_model.specs.declared.lists.Lists.{Lists}
use Rattle.cgm_model.specs.declared.lists.Objective.{Objective}
use Rattle.cgm_model.specs.declared.lists.Preference.{Preference}
use Rattle.cgm_model.specs.declared.lists.Quantity.{Quantity}
use Rattle.cgm_model.specs.declared.lists.Quantity.TheVariants as quantities
use Rattle.cgm_model.specs.declared.lists.SumValue.{SumValue}
use Rattle.cgm_model.specs.declared.lists.Weighing.{Weighing}
use Rattle.cgm_model.specs.Formulas.{IsKnownTruth}
use Rattle.cgm_model.specs.Leaves.{element_numbers, is_leaf_task, leaf_tasks}
use Rattle.cgm_base.specs.Place.{EachFrom}
use Rattle.cgm_model.specs.Statement.{IsKnownQuantity}
use Rattle.cgm_model.specs.Sums.{sum_value, sums_of, total_by, value_for, weight_for}
use Rattle.cgm_model.specs.TruthVariables.{variable_of}
use Rattle.cgm_evolve.specs.Costs.{differs, earlier_truth, elements_of_interest, interests_or, is_changed, is_new_work, is_true, was_true}
use Rattle.cgm_evolve.specs.Pairs.{Pair}
use Rattle.cgm_obj.specs.Counts.{is_free_requirement, is_met}
use Rattle.cgm_obj.specs.Vector.{objective_number, quantity}
use Rattle.cgm_enc_formula.specs.Terms.{number_variable}
use Rattle.cgm_encode.specs.Quantities.{is_possible_work, objective_total, ones, quantity_total, sum_total, was_true_before}
use Rattle.cgm_encode.specs.Totals.{Share, Total, opposite_total, total_value}
use Rattle.cgm_encode.specs.Variables.{first_preference}
use Rattle.cgm_encode.proofs.KnownParts.{HasKnownParts}
use Rattle.cgm_encode.proofs.TotalSums.{negated_product}
use Rattle.cgm_encode.proofs.AddedTotals.{total_append, total_both, total_count, total_filter, total_map, total_opposite, total_same}

-- ---- small steps

no_constant : (x : ℤ) → x +ℤ pos 0 ≡ x
no_constant x = omega (arith, ints)

one_time : (x : ℤ) → pos 1 *ℤ x ≡ x
one_time x = omega (arith, ints)

picked : (t : Bool) (k z : ℤ) → z ≡ bit t → k *ℤ z ≡ cond t k (pos 0)
picked true k z h = rw h (omega (arith, ints))
picked false k z h = rw h (omega (arith, ints))

picked_opposite : (t : Bool) (k z : ℤ) → z ≡ bit t → neg_ℤ k *ℤ z ≡ neg_ℤ (cond t k (pos 0))
picked_opposite true k z h = rw h (omega (arith, ints))
picked_opposite false k z h = rw h (omega (arith, ints))

picked_where : (s t : Bool) (k z : ℤ) → z ≡ bit t → cond s (k *ℤ z) (pos 0) ≡ cond (s && t) k (pos 0)
picked_where true t k z h = picked t k z h
picked_where false t k z h = refl

counted_where : (s t : Bool) (z : ℤ) → z ≡ bit t → cond s (pos 1 *ℤ z) (pos 0) ≡ bit (s && t)
counted_where true t z h = one_time z ∙ h
counted_where false t z h = refl

missed_where : (s t : Bool) (z : ℤ) → z ≡ bit t → cond s (negsuc 0 *ℤ z) (pos 0) +ℤ bit s ≡ bit (s && not t)
missed_where true true z h = rw h refl
missed_where true false z h = rw h refl
missed_where false t z h = refl

changed : (before : Option Bool) (t : Bool) (z : ℤ) → z ≡ bit t → (cond (was_true before) (negsuc 0) (pos 1) *ℤ z) +ℤ bit (was_true before) ≡ bit (differs before t)
changed None true z h = rw h refl
changed None false z h = rw h refl
changed (Some true) true z h = rw h refl
changed (Some true) false z h = rw h refl
changed (Some false) true z h = rw h refl
changed (Some false) false z h = rw h refl

new_work : (leaf was t : Bool) (z : ℤ) → z ≡ bit t → cond (leaf && not was) (pos 1 *ℤ z) (pos 0) ≡ bit (leaf && t && not was)
new_work true true true z h = refl
new_work true true false z h = refl
new_work true false true z h = rw h refl
new_work true false false z h = rw h refl
new_work false was t z h = refl

-- ---- lists of elements

pub range_known : (n : ℕ) → All (λ k. k < n) (range_with_len 0 n)
range_known n k d l =
    let long = length-range_with_len 0 n in
    let at = get_or-range_with_len 0 n k d (omega arith) in
    omega arith

pub leaf_tasks_known : (m : Lists) → All (λ k. k < length m.elements) (leaf_tasks m)
leaf_tasks_known m = All-filter (is_leaf_task m) (λ k. k < length m.elements) (element_numbers m) (range_known (length m.elements))

either_known : (n : ℕ) (ks others : List ℕ) → All (λ k. k < n) ks → All (λ k. k < n) others → All (λ k. k < n) (interests_or ks others)
either_known n [] others h g = g
either_known n (k ∷ ks) others h g = h

pub interests_known : (m : Lists) → HasKnownParts m → All (λ k. k < length m.elements) (elements_of_interest m)
interests_known m parts = either_known (length m.elements) m.interests (leaf_tasks m) parts.interests (leaf_tasks_known m)

pub total_value-opposite : (values : List ℤ) (t : Total) → total_value values (opposite_total t) ≡ neg_ℤ (total_value values t)
total_value-opposite values t =
    let g : Share → ℤ = λ s. s.0 *ℤ value_of values s.1 in
    let turned = total_map (λ (s : Share). (neg_ℤ s.0, s.1)) g t.shares in
    let same = total_same (λ (s : Share). neg_ℤ s.0 *ℤ value_of values s.1) (λ s. neg_ℤ (g s)) t.shares (λ k d l. negated_product (get_or t.shares k d).0 (value_of values (get_or t.shares k d).1)) in
    added (total_by g (map (λ (s : Share). (neg_ℤ s.0, s.1)) t.shares)) (total_by g t.shares) t.constant (turned ∙ same ∙ total_opposite g t.shares)
  where
    added : (x y d : ℤ) → x ≡ neg_ℤ y → x +ℤ neg_ℤ d ≡ neg_ℤ (y +ℤ d)
    added x y d h = omega (arith, ints)

-- ---- values that stand for an assignment

-- a variable is 1 where the preference isn't met, else 0
abbrev pub IsPreferenceValue : List ℤ → Assignment → ℕ → Preference → Type 0
IsPreferenceValue values a x p = value_of values x ≡ bit (not (is_met a p))

-- the values of variables and sums
pub record AreNumbers (m : Lists) (values : List ℤ) (a : Assignment) : Type 0 where
  pub vars : (k : ℕ) → k < length m.vars → value_of values (number_variable m (number.Var k)) ≡ slice_index_or a.vars k (pos 0)
  pub sums : (k : ℕ) → k < length m.sums → value_of values (number_variable m (number.Sum k)) ≡ slice_index_or (sums_of m a) k (pos 0)

module _ (m : Lists) (values : List ℤ) (a : Assignment) (parts : HasKnownParts m) (names : (t : Truth) → IsKnownTruth m t → value_of values (variable_of m t) ≡ bit (name_in a t)) where
  element_value : (k : ℕ) → k < length m.elements → value_of values k ≡ bit (is_true a k)
  element_value k l = names (Element k) l

  pub sum_is : (sum : ℕ) → total_value values (sum_total m sum) ≡ sum_value m a sum
  sum_is sum =
      let p : SumValue → Bool = λ v. v.sum == sum in
      let f : SumValue → Share = λ v. (v.k, variable_of m v.of) in
      let g : Share → ℤ = λ s. s.0 *ℤ value_of values s.1 in
      no_constant (total_by g (map f (filter p m.values)))
      ∙ total_map f g (filter p m.values)
      ∙ total_filter p (λ v. g (f v)) m.values
      ∙ total_same (λ v. cond (p v) (g (f v)) (pos 0)) (value_for a sum) m.values
      (λ k d l. let v = get_or m.values k d in picked_where (p v) (name_in a v.of) v.k (value_of values (variable_of m v.of)) (names v.of (parts.values k d l)))

  weighed : (ws : List Weighing) → All (λ w. w.element < length m.elements) ws → total_by (λ (w : Weighing). w.k *ℤ value_of values w.element) ws ≡ total_by (weight_for a) ws
  weighed ws known =
      total_same (λ (w : Weighing). w.k *ℤ value_of values w.element) (weight_for a) ws
      (λ k d l. let w = get_or ws k d in picked (is_true a w.element) w.k (value_of values w.element) (element_value w.element (known k d l)))

  weighed_opposite : (ws : List Weighing) → All (λ w. w.element < length m.elements) ws → total_by (λ (w : Weighing). neg_ℤ w.k *ℤ value_of values w.element) ws ≡ neg_ℤ (total_by (weight_for a) ws)
  weighed_opposite ws known =
      total_same (λ (w : Weighing). neg_ℤ w.k *ℤ value_of values w.element) (λ w. neg_ℤ (weight_for a w)) ws
      (λ k d l. let w = get_or ws k d in picked_opposite (is_true a w.element) w.k (value_of values w.element) (element_value w.element (known k d l)))
      ∙ total_opposite (weight_for a) ws

  difference : (whole x y u v : ℤ) → whole ≡ x +ℤ y → x ≡ u → y ≡ neg_ℤ v → whole +ℤ pos 0 ≡ u -ℤ v
  difference whole x y u v h e f = omega (arith, ints)

  weight_is : (pairs : List Pair) → total_value values (quantity_total m pairs quantities.Weight) ≡ quantity m pairs a quantities.Weight
  weight_is pairs =
      let g : Share → ℤ = λ s. s.0 *ℤ value_of values s.1 in
      let up : Weighing → Share = λ w. (w.k, w.element) in
      let down : Weighing → Share = λ w. (neg_ℤ w.k, w.element) in
      difference (total_by g (map up m.penalties ++ map down m.rewards)) (total_by g (map up m.penalties)) (total_by g (map down m.rewards)) (total_by (weight_for a) m.penalties) (total_by (weight_for a) m.rewards)
      (total_append g (map up m.penalties) (map down m.rewards))
      (total_map up g m.penalties ∙ weighed m.penalties parts.penalties)
      (total_map down g m.rewards ∙ weighed_opposite m.rewards parts.rewards)

  prefers_are : (first : ℕ) (ps : List Preference) → EachFrom first (IsPreferenceValue values a) ps → total_by (λ (s : Share). s.0 *ℤ value_of values s.1) (ones (range_with_len first (length ps))) ≡ total_by (λ p. bit (not (is_met a p))) ps
  prefers_are first [] each = refl
  prefers_are first (p ∷ ps) each =
      ap (λ (z : ℤ). z +ℤ total_by (λ (s : Share). s.0 *ℤ value_of values s.1) (ones (range_with_len (first + 1) (length ps)))) (one_time (value_of values first) ∙ each.0)
      ∙ ap (λ (z : ℤ). bit (not (is_met a p)) +ℤ z) (prefers_are (first + 1) ps each.1)

  unsat_prefs_is : (pairs : List Pair) → EachFrom (first_preference m) (IsPreferenceValue values a) m.prefers → total_value values (quantity_total m pairs quantities.UnsatPrefs) ≡ quantity m pairs a quantities.UnsatPrefs
  unsat_prefs_is pairs each =
      no_constant (total_by (λ (s : Share). s.0 *ℤ value_of values s.1) (ones (range_with_len (first_preference m) (length m.prefers))))
      ∙ prefers_are (first_preference m) m.prefers each
      ∙ total_count (λ p. not (is_met a p)) m.prefers

  unsat_reqs_is : (pairs : List Pair) → total_value values (quantity_total m pairs quantities.UnsatReqs) ≡ quantity m pairs a quantities.UnsatReqs
  unsat_reqs_is pairs =
      let p = is_free_requirement m in
      let xs = element_numbers m in
      let g : Share → ℤ = λ s. s.0 *ℤ value_of values s.1 in
      let f : ℕ → Share = λ e. (negsuc 0, e) in
      let shares : total_by g (map f (filter p xs)) ≡ total_by (λ e. cond (p e) (g (f e)) (pos 0)) xs = total_map f g (filter p xs) ∙ total_filter p (λ e. g (f e)) xs in
      let count : pos (length (filter p xs)) ≡ total_by (λ e. bit (p e)) xs = ap pos (length-filter p xs) ∙ sym (total_count p xs) in
      ap (λ (z : ℤ). z +ℤ pos (length (filter p xs))) shares
      ∙ ap (λ (z : ℤ). total_by (λ e. cond (p e) (g (f e)) (pos 0)) xs +ℤ z) count
      ∙ total_both (λ e. cond (p e) (g (f e)) (pos 0)) (λ e. bit (p e)) xs
      ∙ total_same (λ e. cond (p e) (g (f e)) (pos 0) +ℤ bit (p e)) (λ e. bit (p e && not (is_true a e))) xs
      (λ k d l. let e = get_or xs k d in missed_where (p e) (is_true a e) (value_of values e) (element_value e (range_known (length m.elements) k d l)))
      ∙ total_count (λ e. p e && not (is_true a e)) xs

  sat_tasks_is : (pairs : List Pair) → total_value values (quantity_total m pairs quantities.SatTasks) ≡ quantity m pairs a quantities.SatTasks
  sat_tasks_is pairs =
      let xs = leaf_tasks m in
      let g : Share → ℤ = λ s. s.0 *ℤ value_of values s.1 in
      let f : ℕ → Share = λ e. (pos 1, e) in
      no_constant (total_by g (map f xs))
      ∙ total_map f g xs
      ∙ total_same (λ e. g (f e)) (λ e. bit (is_true a e)) xs
      (λ k d l. let e = get_or xs k d in one_time (value_of values e) ∙ element_value e (leaf_tasks_known m k d l))
      ∙ total_count (is_true a) xs

  familiarity_is : (pairs : List Pair) → total_value values (quantity_total m pairs quantities.Familiarity) ≡ quantity m pairs a quantities.Familiarity
  familiarity_is pairs =
      let p = was_true_before m pairs in
      let xs = elements_of_interest m in
      let g : Share → ℤ = λ s. s.0 *ℤ value_of values s.1 in
      let f : ℕ → Share = λ e. (cond (p e) (negsuc 0) (pos 1), e) in
      ap (λ (z : ℤ). z +ℤ pos (count_by p xs)) (total_map f g xs)
      ∙ ap (λ (z : ℤ). total_by (λ e. g (f e)) xs +ℤ z) (sym (total_count p xs))
      ∙ total_both (λ e. g (f e)) (λ e. bit (p e)) xs
      ∙ total_same (λ e. g (f e) +ℤ bit (p e)) (λ e. bit (is_changed m pairs a e)) xs
      (λ k d l. let e = get_or xs k d in changed (earlier_truth m pairs e) (is_true a e) (value_of values e) (element_value e (interests_known m parts k d l)))
      ∙ total_count (is_changed m pairs a) xs

  effort_is : (pairs : List Pair) → total_value values (quantity_total m pairs quantities.Effort) ≡ quantity m pairs a quantities.Effort
  effort_is pairs =
      let p = is_possible_work m pairs in
      let xs = elements_of_interest m in
      let g : Share → ℤ = λ s. s.0 *ℤ value_of values s.1 in
      let f : ℕ → Share = λ e. (pos 1, e) in
      no_constant (total_by g (map f (filter p xs)))
      ∙ total_map f g (filter p xs)
      ∙ total_filter p (λ e. g (f e)) xs
      ∙ total_same (λ e. cond (p e) (g (f e)) (pos 0)) (λ e. bit (is_new_work m pairs a e)) xs
      (λ k d l. let e = get_or xs k d in new_work (is_leaf_task m e) (was_true_before m pairs e) (is_true a e) (value_of values e) (element_value e (interests_known m parts k d l)))
      ∙ total_count (is_new_work m pairs a) xs

  one_share : (x : ℕ) (z : ℤ) → value_of values x ≡ z → ((pos 1 *ℤ value_of values x) +ℤ pos 0) +ℤ pos 0 ≡ z
  one_share x z h = omega (arith, ints)

  pub quantity_is : (pairs : List Pair) (q : Quantity) → IsKnownQuantity m q → AreNumbers m values a → EachFrom (first_preference m) (IsPreferenceValue values a) m.prefers → total_value values (quantity_total m pairs q) ≡ quantity m pairs a q
  quantity_is pairs (quantities.Var k) known numbers each = one_share (number_variable m (number.Var k)) (slice_index_or a.vars k (pos 0)) (numbers.vars k known)
  quantity_is pairs (quantities.Sum k) known numbers each = one_share (number_variable m (number.Sum k)) (slice_index_or (sums_of m a) k (pos 0)) (numbers.sums k known)
  quantity_is pairs quantities.Weight known numbers each = weight_is pairs
  quantity_is pairs quantities.UnsatPrefs known numbers each = unsat_prefs_is pairs each
  quantity_is pairs quantities.UnsatReqs known numbers each = unsat_reqs_is pairs
  quantity_is pairs quantities.SatTasks known numbers each = sat_tasks_is pairs
  quantity_is pairs quantities.Familiarity known numbers each = familiarity_is pairs
  quantity_is pairs quantities.Effort known numbers each = effort_is pairs

  signed : (max : Bool) (t : Total) (z : ℤ) → total_value values t ≡ z → total_value values (cond max (opposite_total t) t) ≡ cond max (neg_ℤ z) z
  signed true t z h = total_value-opposite values t ∙ ap neg_ℤ h
  signed false t z h = h

  pub objective_is : (pairs : List Pair) (o : Objective) → IsKnownQuantity m o.of → AreNumbers m values a → EachFrom (first_preference m) (IsPreferenceValue values a) m.prefers → total_value values (objective_total m pairs o) ≡ objective_number m pairs a o
  objective_is pairs o known numbers each = signed o.max (quantity_total m pairs o.of) (quantity m pairs a o.of) (quantity_is pairs o.of known numbers each)
