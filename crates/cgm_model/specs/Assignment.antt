-- Assignments that belong to a model: a truth value for each element and refinement, and a number within its bounds for each variable.
use Rattle.std.specs.Prelude.{◌≡◌, ℕ, false, IsTrue, length, List, ℤ, pos, ◌≤ℤ◌}
use Rattle.std.specs.List.{slice_index_or}
use Rattle.cgm_formula.specs.declared.assignment.Assignment.{Assignment}
use Rattle.cgm_model.specs.declared.lists.Lists.{Lists}
use Rattle.cgm_model.specs.declared.lists.Variable.{Variable}
use Rattle.cgm_base.specs.Place.{Each}

-- the value at the variable's place is within its bounds
pub record IsWithinBounds (values : List ℤ) (place : ℕ) (v : Variable) : Type 0 where
  pub low : v.lo ≤ℤ slice_index_or values place (pos 0)
  pub high : slice_index_or values place (pos 0) ≤ℤ v.hi

pub record Fits (m : Lists) (a : Assignment) : Type 0 where
  pub elements : length a.elements ≡ length m.elements
  pub refinements : length a.refinements ≡ length m.refinements
  pub vars : length a.vars ≡ length m.vars
  pub bounds : Each (IsWithinBounds a.vars) m.vars

abbrev pub ElementIsTrue : Assignment → ℕ → Type 0
ElementIsTrue a element = IsTrue (slice_index_or a.elements element false)

abbrev pub RefinementIsTrue : Assignment → ℕ → Type 0
RefinementIsTrue a refinement = IsTrue (slice_index_or a.refinements refinement false)
