-- The sums and the objectives of a model as totals of variables.
use Rattle.std.specs.Prelude.{ℕ, ◌==◌, Bool, ◌&&◌, not, cond, if◌then◌else◌, List, [], ◌∷◌, ◌++◌, length, map, filter, count_by, pos, negsuc, neg_ℤ}
use Rattle.std.specs.List.{range_with_len}
use Rattle.cgm_formula.specs.declared.formula.Number.TheVariants as number
use Rattle.cgm_model.specs.declared.lists.Lists.{Lists}
use Rattle.cgm_model.specs.declared.lists.Objective.{Objective}
use Rattle.cgm_model.specs.declared.lists.Quantity.{Quantity}
use Rattle.cgm_model.specs.declared.lists.Quantity.TheVariants as quantities
use Rattle.cgm_model.specs.Leaves.{element_numbers, is_leaf_task, leaf_tasks}
use Rattle.cgm_model.specs.TruthVariables.{variable_of}
use Rattle.cgm_evolve.specs.Costs.{earlier_truth, elements_of_interest, was_true}
use Rattle.cgm_evolve.specs.Pairs.{Pair}
use Rattle.cgm_obj.specs.Counts.{is_free_requirement}
use Rattle.cgm_enc_formula.specs.Terms.{number_variable}
use Rattle.cgm_encode.specs.Totals.{Share, Total, opposite_total}
use Rattle.cgm_encode.specs.Variables.{first_preference}

-- the shares without a constant
abbrev pub plain : List Share → Total
plain shares = record { shares = shares; constant = pos 0 }

-- 1 for each variable
abbrev pub ones : List ℕ → List Share
ones variables = map (λ x. (pos 1, x)) variables

-- the number of each value line of the sum, for its element or refinement
abbrev pub sum_total : Lists → ℕ → Total
sum_total m sum = plain (map (λ v. (v.k, variable_of m v.of)) (filter (λ v. v.sum == sum) m.values))

-- the requirements without `must`
abbrev pub free_requirements : Lists → List ℕ
free_requirements m = filter (is_free_requirement m) (element_numbers m)

abbrev pub was_true_before : Lists → List Pair → ℕ → Bool
was_true_before m pairs element = was_true (earlier_truth m pairs element)

-- a count of the elements that are no longer true or newly true: -1 for one that was true, which the constant counts, else 1
abbrev pub familiarity_total : Lists → List Pair → Total
familiarity_total m pairs = record {
  shares = map (λ e. (cond (was_true_before m pairs e) (negsuc 0) (pos 1), e)) (elements_of_interest m);
  constant = pos (count_by (was_true_before m pairs) (elements_of_interest m));
}

-- a leaf task that wasn't true
abbrev pub is_possible_work : Lists → List Pair → ℕ → Bool
is_possible_work m pairs element = is_leaf_task m element && not (was_true_before m pairs element)

-- the leaf tasks of interest that weren't true
abbrev pub possible_work : Lists → List Pair → List ℕ
possible_work m pairs = filter (is_possible_work m pairs) (elements_of_interest m)

abbrev pub quantity_total : Lists → List Pair → Quantity → Total
quantity_total m pairs (quantities.Var k) = plain (ones (number_variable m (number.Var k) ∷ []))
quantity_total m pairs (quantities.Sum k) = plain (ones (number_variable m (number.Sum k) ∷ []))
quantity_total m pairs quantities.Weight =
    plain (map (λ w. (w.k, w.element)) m.penalties ++ map (λ w. (neg_ℤ w.k, w.element)) m.rewards)
quantity_total m pairs quantities.UnsatPrefs = plain (ones (range_with_len (first_preference m) (length m.prefers)))
quantity_total m pairs quantities.UnsatReqs = record {
  shares = map (λ e. (negsuc 0, e)) (free_requirements m);
  constant = pos (length (free_requirements m));
}
quantity_total m pairs quantities.SatTasks = plain (ones (leaf_tasks m))
quantity_total m pairs quantities.Familiarity = familiarity_total m pairs
quantity_total m pairs quantities.Effort = plain (ones (possible_work m pairs))

-- the quantity for `min`, and with its sign changed for `max`
abbrev pub objective_total : Lists → List Pair → Objective → Total
objective_total m pairs o = if o.max then opposite_total (quantity_total m pairs o.of) else quantity_total m pairs o.of
