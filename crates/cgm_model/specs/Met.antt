-- The variables and sums that were met in a linear expression.
use Rattle.std.specs.Prelude.{◌≡◌, Bool, true, cond, not, nat_eq}
use Rattle.indexmap.specs.IndexSet.{contains}
use Rattle.cgm_formula.specs.declared.formula.Number.{Number}
use Rattle.cgm_formula.specs.declared.formula.Number.TheVariants as number
use Rattle.cgm_model.specs.declared.formulas.Met.{Met}
use Rattle.cgm_model.specs.Formulas.{is_same_number}

abbrev pub has : Met → Number → Bool
has met (number.Var k) = contains nat_eq met.vars k
has met (number.Sum k) = contains nat_eq met.sums k

-- the number was met before or not, and now it is met beside the others
pub record Meets (old new : Met) (x : Number) (is_new : Bool) : Type 0 where
  pub answer : is_new ≡ not (has old x)
  pub others : (y : Number) → has new y ≡ cond (is_same_number x y) true (has old y)
