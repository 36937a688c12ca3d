-- The summands of the code as a total, the variables of preferences, and objectives whose numbers fit.
use Rattle.std.specs.Prelude.{◌≡◌, ℕ, ◌^◌, ◌<◌, List, length, unsigned_abs}
use Rattle.std.specs.List.{All, range_with_len}
use Rattle.cgm_model.specs.declared.lists.Lists.{Lists}
use Rattle.cgm_model.specs.declared.lists.Objective.{Objective}
use Rattle.cgm_model.specs.Statement.{IsKnownQuantity}
use Rattle.cgm_evolve.specs.Pairs.{Pair}
use Rattle.cgm_encode.specs.declared.quantities.Summands.{Summands}
use Rattle.cgm_encode.specs.Building.{share_size}
use Rattle.cgm_encode.specs.Quantities.{objective_total}
use Rattle.cgm_encode.specs.Totals.{Total}
use Rattle.cgm_encode.specs.Variables.{first_objective, first_preference}

abbrev pub AreSummandsOf : Summands → Total → Type 0
AreSummandsOf s t = (s.shares ≡ t.shares) × (s.constant ≡ t.constant)

abbrev pub AreVariablesOfPreferences : Lists → List ℕ → Type 0
AreVariablesOfPreferences m variables = variables ≡ range_with_len (first_preference m) (length m.prefers)

-- its quantity is there, its variables stand before the objectives, and its numbers fit
pub record IsFitting (m : Lists) (pairs : List Pair) (o : Objective) : Type 0 where
  pub known : IsKnownQuantity m o.of
  pub shares : All (λ s. s.1 < first_objective m) (objective_total m pairs o).shares
  pub numbers : share_size (objective_total m pairs o).shares < 2 ^ 63
  pub constant : unsigned_abs (objective_total m pairs o).constant < 2 ^ 63
