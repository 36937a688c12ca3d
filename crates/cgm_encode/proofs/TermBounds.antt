-- A coefficient times a bound, as numbers that are passed as words of 64 bits.
use Rattle.std.proofs.Common.{◌≡◌, ℕ, ◌+◌, ◌*◌, ◌^◌, ◌<◌, ◌≤◌, ap, ◌∙◌, arith}
use Rattle.std.proofs.Math.Nat.{mul-le-mul_left}
use Rattle.std.specs.Prelude.{ℤ, ◌*ℤ◌, unsigned_abs}
use Rattle.cgm_atom.specs.Limits.{max_measure}

-- within the measure's limit is within 64 bits
pub measure_fits : (n : ℕ) → n ≤ max_measure → n < 2 ^ 63
measure_fits n h = omega arith

module _ (c v p q : ℤ) (same_c : p ≡ c) (same_v : q ≡ v) where
  pub product_limit : (n limit : ℕ) → unsigned_abs v ≤ n → unsigned_abs c * n ≤ limit → unsigned_abs p * unsigned_abs q ≤ limit
  product_limit n limit small h =
      let less = mul-le-mul_left (unsigned_abs c) small in
      rw (same_c, same_v) (within (unsigned_abs c * unsigned_abs v) (unsigned_abs c * n) limit less h)
    where
      within : (x y z : ℕ) → x ≤ y → y ≤ z → x ≤ z
      within x y z l m = omega arith

  pub product_value : (r s : ℤ) → r ≡ p *ℤ q → s ≡ r → s ≡ c *ℤ v
  product_value r s e is = is ∙ e ∙ ap (λ (x : ℤ). x *ℤ q) same_c ∙ ap (λ (x : ℤ). c *ℤ x) same_v

  pub product_size : (r s : ℤ) (n : ℕ) → unsigned_abs r ≡ unsigned_abs p * unsigned_abs q → s ≡ r → unsigned_abs v ≤ n → unsigned_abs s ≤ unsigned_abs c * n
  product_size r s n e is small =
      let size : unsigned_abs s ≡ unsigned_abs c * unsigned_abs v =
      ap (λ (x : ℤ). unsigned_abs x) is ∙ e ∙ ap (λ (x : ℤ). unsigned_abs x * unsigned_abs q) same_c ∙ ap (λ (x : ℤ). unsigned_abs c * unsigned_abs x) same_v in
      rw size (mul-le-mul_left (unsigned_abs c) small)

-- what is added to a sum so far
pub next_fits : (sum share rest all : ℕ) (part : ℕ) → sum + (share + rest) ≤ all → part ≤ share → all ≤ max_measure → sum + part < 2 ^ 63
next_fits sum share rest all part h small limit = omega arith

pub share_fits : (sum share rest all : ℕ) → sum + (share + rest) ≤ all → all ≤ max_measure → share ≤ max_measure
share_fits sum share rest all h limit = omega arith
