-- Preferences and requirements that aren't met, and leaf tasks that are true.
use Rattle.std.specs.Prelude.{ℕ, Bool, true, false, ◌&&◌, ◌||◌, not, Option, None, Some, count_by, slice_get}
use Rattle.cgm_formula.specs.declared.assignment.Assignment.{Assignment}
use Rattle.cgm_formula.specs.Reading.{name_in}
use Rattle.cgm_model.specs.declared.lists.Element.{Element}
use Rattle.cgm_model.specs.declared.lists.ElementKind.{ElementKind}
use Rattle.cgm_model.specs.declared.lists.ElementKind.TheVariants as kinds
use Rattle.cgm_model.specs.declared.lists.Lists.{Lists}
use Rattle.cgm_model.specs.declared.lists.Preference.{Preference}
use Rattle.cgm_evolve.specs.Costs.{is_true}
use Rattle.cgm_model.specs.Leaves.{element_numbers, is_source, leaf_tasks}

-- the better one is true, or the worse one false
abbrev pub is_met : Assignment → Preference → Bool
is_met a p = name_in a p.better || not (name_in a p.worse)

-- the preferences that aren't met
abbrev pub unsat_prefs : Lists → Assignment → ℕ
unsat_prefs m a = count_by (λ p. not (is_met a p)) m.prefers

-- the element is a source of no refinement
abbrev pub is_root : Lists → ℕ → Bool
is_root m element = not (is_source m element)

abbrev pub is_goal : ElementKind → Bool
is_goal kinds.Goal = true
is_goal kinds.Task = false
is_goal kinds.Assume = false

-- a goal without `must`
abbrev pub is_free_goal : Option Element → Bool
is_free_goal None = false
is_free_goal (Some e) = is_goal e.kind && not e.must

-- a root that is a goal without `must`
abbrev pub is_free_requirement : Lists → ℕ → Bool
is_free_requirement m element = is_free_goal (slice_get m.elements element) && is_root m element

-- the requirements without `must` that are false
abbrev pub unsat_reqs : Lists → Assignment → ℕ
unsat_reqs m a = count_by (λ element. is_free_requirement m element && not (is_true a element)) (element_numbers m)

-- the leaf tasks that are true
abbrev pub sat_tasks : Lists → Assignment → ℕ
sat_tasks m a = count_by (is_true a) (leaf_tasks m)
