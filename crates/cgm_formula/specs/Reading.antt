-- How an assignment and the values of the sums read names and numbers: what has no value is false, or 0.
use Rattle.std.specs.Prelude.{Bool, false, List, ℤ, pos, slice_index_or}
use Rattle.cgm_formula.specs.declared.assignment.Assignment.{Assignment}
use Rattle.cgm_formula.specs.declared.formula.Truth.{Truth}
use Rattle.cgm_formula.specs.declared.formula.Truth.TheVariants.{Element, Refinement}
use Rattle.cgm_formula.specs.declared.formula.Number.{Number}
use Rattle.cgm_formula.specs.declared.formula.Number.TheVariants.{Var, Sum}

abbrev pub name_in : Assignment → Truth → Bool
name_in a (Element k) = slice_index_or a.elements k false
name_in a (Refinement k) = slice_index_or a.refinements k false

abbrev pub number_in : Assignment → List ℤ → Number → ℤ
number_in a sums (Var k) = slice_index_or a.vars k (pos 0)
number_in a sums (Sum k) = slice_index_or sums k (pos 0)
