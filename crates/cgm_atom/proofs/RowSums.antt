-- Sums of rows as far as a loop has come.
use Rattle.std.proofs.Common.{◌≡◌, ℕ, ◌+◌, ◌*◌, ◌<◌, ◌≤◌, max, List, ◌∷◌, length, get_or, drop, subst, arith}
use Rattle.std.proofs.Math.Nat.{mul-le-mul_left}
use Rattle.std.specs.Prelude.{ℤ, ◌+ℤ◌, ◌*ℤ◌, unsigned_abs}
use Rattle.std.proofs.lemmas.Int.{ints, unsigned_abs-mul}
use Rattle.std.proofs.lemmas.List.{drop_more}
use Rattle.cgm_atom.specs.declared.constraints.Var.{Var}
use Rattle.cgm_atom.specs.Bounds.{Bounds}
use Rattle.cgm_atom.specs.Limits.{AreTermsOf, greatest_size, measure}
use Rattle.cgm_atom.specs.Narrowing.{greatest_activity, greatest_term}

product_size : (c v : ℤ) (n : ℕ) → unsigned_abs v ≤ n → unsigned_abs (c *ℤ v) ≤ unsigned_abs c * n
product_size c v n h = rw (unsigned_abs-mul c v) (mul-le-mul_left (unsigned_abs c) h)

pub low_product_size : (c l u : ℤ) → unsigned_abs (c *ℤ l) ≤ unsigned_abs c * max (unsigned_abs l) (unsigned_abs u)
low_product_size c l u = product_size c l (max (unsigned_abs l) (unsigned_abs u)) (omega arith)

pub high_product_size : (c l u : ℤ) → unsigned_abs (c *ℤ u) ≤ unsigned_abs c * max (unsigned_abs l) (unsigned_abs u)
high_product_size c l u = product_size c u (max (unsigned_abs l) (unsigned_abs u)) (omega arith)

-- the sum so far, with the greatest sum of the rest, is that of all, and the measure bounds it
pub record IsSumSoFar (b : Bounds) (terms rest : List (ℤ × Var)) (sum : ℤ) : Type 0 where
  pub total : sum +ℤ greatest_activity b rest ≡ greatest_activity b terms
  pub size : unsigned_abs sum + measure b rest ≤ measure b terms
  pub known : AreTermsOf (length b.lower) rest

pub sum_steps : (b : Bounds) (terms rest : List (ℤ × Var)) (t : ℤ × Var) (sum next : ℤ) → next ≡ sum +ℤ greatest_term b t.0 t.1.0 → unsigned_abs next ≤ unsigned_abs sum + unsigned_abs t.0 * greatest_size b t.1.0 → IsSumSoFar b terms (t ∷ rest) sum → IsSumSoFar b terms rest next
sum_steps b terms rest t sum next e size far =
    let total = far.total in
    let bounded = far.size in
    record { total = omega (arith, ints, e, total); size = omega (arith, bounded, size); known = far.known.3 }

-- the rest of a list at a place that is within
pub rest_at : {X : Type 0} (P : List X → Type 0) (xs : List X) (i : ℕ) (d : X) → i < length xs → P (drop i xs) → P (get_or xs i d ∷ drop (i + 1) xs)
rest_at P xs i d h p = subst P (drop_more xs i d h) p
