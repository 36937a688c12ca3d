-- Elements and refinements as variables of 0 or 1, numbered in one row, and the truths that those stand for.
use Rattle.std.specs.Prelude.{◌≡◌, ℕ, ◌+◌, ◌<◌, Bool, false, length, slice_index_or}
use Rattle.cgm_formula.specs.declared.assignment.Assignment.{Assignment}
use Rattle.cgm_formula.specs.declared.formula.Truth.{Truth}
use Rattle.cgm_formula.specs.declared.formula.Truth.TheVariants.{Element, Refinement}
use Rattle.cgm_model.specs.declared.lists.Lists.{Lists}

-- the elements come first, by number, then the refinements
abbrev pub variable_of : Lists → Truth → ℕ
variable_of m (Element k) = k
variable_of m (Refinement k) = length m.elements + k

-- how many variables stand for elements and refinements
abbrev pub truth_variables : Lists → ℕ
truth_variables m = length m.elements + length m.refinements

-- each element and each refinement has the truth of its variable; variables past them are free
pub record StandFor (m : Lists) (truths : ℕ → Bool) (a : Assignment) : Type 0 where
  pub elements : (k : ℕ) → k < length m.elements → slice_index_or a.elements k false ≡ truths (variable_of m (Element k))
  pub refinements : (k : ℕ) → k < length m.refinements → slice_index_or a.refinements k false ≡ truths (variable_of m (Refinement k))
