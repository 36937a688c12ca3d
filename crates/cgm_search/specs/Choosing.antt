-- The two orders of decisions that a worker goes by.
use Rattle.std.specs.Prelude.{◌≡◌, ℕ, length, Some, suc, zero}
use Rattle.cgm_atom.specs.Bounds.{Bounds}
use Rattle.cgm_atom.specs.declared.constraints.Atom.{Atom}
use Rattle.cgm_search.specs.declared.decisions.Choice.{Choice}
use Rattle.cgm_split.specs.Drawing.{order_of}
use Rattle.cgm_split.specs.Preferring.{preferred}
use Rattle.cgm_split.specs.Weighing.{IsHeaviest}

-- both orders are of so many variables
pub record IsChoiceOf (count : ℕ) (c : Choice) : Type 0 where
  pub order : length c.order.variables ≡ count
  pub activity : length c.activity.weights ≡ count

-- before the first restart and, for equal weights, after it the variables go in the order of this seed and this worker
pub record IsOwnOrder (count seed worker : ℕ) (c : Choice) : Type 0 where
  pub first : c.order.variables ≡ order_of count seed worker
  pub later : c.activity.variables ≡ order_of count seed worker

-- before the first restart the decision halves the variable that the order prefers, after it a heaviest one
abbrev pub IsOwnHalf : ℕ → Bounds → Choice → Atom → Type 0
IsOwnHalf zero b c a = Some a.var ≡ preferred b c.order
IsOwnHalf (suc n) b c a = IsHeaviest b c.activity.weights c.activity.variables a.var
