-- Least sums of terms as far as a loop has come.
use Rattle.std.proofs.Common.{◌≡◌, ◌+◌, ◌*◌, ◌≤◌, List, ◌∷◌, length, arith}
use Rattle.std.specs.Prelude.{ℤ, ◌+ℤ◌, unsigned_abs}
use Rattle.std.proofs.lemmas.Int.{ints}
use Rattle.cgm_atom.specs.declared.constraints.Var.{Var}
use Rattle.cgm_atom.specs.Bounds.{Bounds}
use Rattle.cgm_atom.specs.Limits.{AreTermsOf, greatest_size, measure}
use Rattle.cgm_encode.specs.Totals.{least_activity, least_term}

-- the sum so far, with the least sum of the rest, is that of all, and the measure bounds it
pub record IsLeastSoFar (b : Bounds) (terms rest : List (ℤ × Var)) (sum : ℤ) : Type 0 where
  pub total : sum +ℤ least_activity b rest ≡ least_activity b terms
  pub size : unsigned_abs sum + measure b rest ≤ measure b terms
  pub known : AreTermsOf (length b.lower) rest

pub least_steps : (b : Bounds) (terms rest : List (ℤ × Var)) (t : ℤ × Var) (sum next : ℤ) → next ≡ sum +ℤ least_term b t.0 t.1.0 → unsigned_abs next ≤ unsigned_abs sum + unsigned_abs t.0 * greatest_size b t.1.0 → IsLeastSoFar b terms (t ∷ rest) sum → IsLeastSoFar b terms rest next
least_steps b terms rest t sum next e size far =
    let total = far.total in
    let bounded = far.size in
    record { total = omega (arith, ints, e, total); size = omega (arith, bounded, size); known = far.known.3 }
