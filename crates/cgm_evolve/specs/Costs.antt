-- What it costs to move on from an earlier realization: familiarity and effort, counts over the elements of interest.
use Rattle.std.specs.Prelude.{ℕ, Bool, true, false, ◌&&◌, not, List, [], ◌∷◌, Option, None, Some, count_by}
use Rattle.std.specs.List.{slice_index_or}
use Rattle.cgm_formula.specs.declared.assignment.Assignment.{Assignment}
use Rattle.cgm_formula.specs.declared.formula.Truth.TheVariants.{Element}
use Rattle.cgm_formula.specs.Reading.{name_in}
use Rattle.cgm_model.specs.declared.lists.Lists.{Lists}
use Rattle.cgm_model.specs.Named.{element_names}
use Rattle.cgm_model.specs.Leaves.{is_leaf_task, leaf_tasks}
use Rattle.cgm_evolve.specs.declared.costs.Cost.{Cost}
use Rattle.cgm_evolve.specs.declared.costs.Cost.TheVariants as kinds
use Rattle.cgm_evolve.specs.Pairs.{Pair, truth_in}

-- the elements on interest lines, or these others where there is no such line
abbrev pub interests_or : List ℕ → List ℕ → List ℕ
interests_or [] others = others
interests_or (element ∷ elements) others = element ∷ elements

abbrev pub elements_of_interest : Lists → List ℕ
elements_of_interest m = interests_or m.interests (leaf_tasks m)

abbrev pub is_true : Assignment → ℕ → Bool
is_true a element = name_in a (Element element)

-- the truth that the element had, where its name is known
abbrev pub earlier_truth : Lists → List Pair → ℕ → Option Bool
earlier_truth m pairs element = truth_in pairs (slice_index_or (element_names m) element [])

-- whether a truth differs from the earlier one; where that isn't known, a true one does
abbrev pub differs : Option Bool → Bool → Bool
differs None truth = truth
differs (Some true) truth = not truth
differs (Some false) truth = truth

-- whether the earlier truth is known and true
abbrev pub was_true : Option Bool → Bool
was_true None = false
was_true (Some truth) = truth

-- whether the element's truth isn't the earlier one
abbrev pub is_changed : Lists → List Pair → Assignment → ℕ → Bool
is_changed m pairs a element = differs (earlier_truth m pairs element) (is_true a element)

-- whether the element is a leaf task that is true now and wasn't before
abbrev pub is_new_work : Lists → List Pair → Assignment → ℕ → Bool
is_new_work m pairs a element = is_leaf_task m element && is_true a element && not (was_true (earlier_truth m pairs element))

-- whether the element counts for this cost
abbrev pub is_counted : Cost → Lists → List Pair → Assignment → ℕ → Bool
is_counted kinds.Familiarity = is_changed
is_counted kinds.Effort = is_new_work

-- the elements of interest that changed
abbrev pub familiarity : Lists → List Pair → Assignment → ℕ
familiarity m pairs a = count_by (is_changed m pairs a) (elements_of_interest m)

-- the elements of interest that are new work
abbrev pub effort : Lists → List Pair → Assignment → ℕ
effort m pairs a = count_by (is_new_work m pairs a) (elements_of_interest m)
