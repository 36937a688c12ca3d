-- A least realization: one than whose vector no realization's vector is less.
use Rattle.std.specs.Prelude.{List}
use Rattle.cgm_formula.specs.declared.assignment.Assignment.{Assignment}
use Rattle.cgm_model.specs.declared.lists.Lists.{Lists}
use Rattle.cgm_model.specs.Assignment.{Fits}
use Rattle.cgm_model.specs.Realization.{IsRealization}
use Rattle.cgm_model.specs.Sums.{sums_of}
use Rattle.cgm_evolve.specs.Pairs.{Pair}
use Rattle.cgm_base.specs.Order.{IsLess}
use Rattle.cgm_obj.specs.Vector.{vector_of}

-- an assignment that fits and is a realization
pub record Realizes (m : Lists) (a : Assignment) : Type 0 where
  pub fits : Fits m a
  pub keeps : IsRealization m a (sums_of m a)

pub record IsLeastRealization (m : Lists) (pairs : List Pair) (a : Assignment) : Type 0 where
  pub realizes : Realizes m a
  pub least : (b : Assignment) → Realizes m b → ¬ IsLess (vector_of m pairs b) (vector_of m pairs a)
