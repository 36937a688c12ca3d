-- The leaf tasks of a model, which are the elements that no refinement has as its target and that aren't declared assumptions, and its sources.
use Rattle.std.specs.Prelude.{ℕ, ◌==◌, Bool, ◌&&◌, not, List, length, map, slice_get}
use Rattle.std.specs.List.{filter, list_any, range_with_len}
use Rattle.cgm_model.specs.declared.lists.Lists.{Lists}
use Rattle.cgm_model.specs.Statement.{is_assumption}

-- no refinement has the element as its target
abbrev pub is_leaf : Lists → ℕ → Bool
is_leaf m element = not (list_any (λ r. r.target == element) m.refinements)

abbrev pub is_leaf_task : Lists → ℕ → Bool
is_leaf_task m element = is_leaf m element && not (is_assumption (slice_get (map (λ e. e.kind) m.elements) element))

-- the elements, by number
abbrev pub element_numbers : Lists → List ℕ
element_numbers m = range_with_len 0 (length m.elements)

abbrev pub leaf_tasks : Lists → List ℕ
leaf_tasks m = filter (is_leaf_task m) (element_numbers m)

-- the element is a source of a refinement
abbrev pub is_source : Lists → ℕ → Bool
is_source m element = list_any (λ r. list_any (λ source. source == element) r.sources) m.refinements
