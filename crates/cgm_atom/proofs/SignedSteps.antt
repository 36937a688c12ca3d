-- Steps on signed numbers: the order, products with a number of known sign, and quotients of a room.
use Rattle.std.proofs.Common.{◌≡◌, ℕ, suc, ◌+◌, ◌*◌, ◌/◌, ◌%◌, ◌<◌, ◌≤◌, true, false, sym, arith}
use Rattle.std.specs.Prelude.{ℤ, pos, negsuc, ◌+ℤ◌, ◌*ℤ◌, ◌≤ℤ◌, ◌<ℤ◌, int_le, int_lt}
use Rattle.std.proofs.lemmas.Int.{ints}
use Rattle.std.proofs.Math.Nat.{mul-le-mul_left, div-add-mod, mod-lt, lt_of_mul-lt-mul_left}
use borrow.Author.Differences.{le_out, true_is_le, false_is_le, true_is_lt, false_is_lt}

-- ---- the order

pub ≤ℤ_refl : (a : ℤ) → a ≤ℤ a
≤ℤ_refl a = omega (arith, ints)

pub ≤ℤ_trans : (a b c : ℤ) → a ≤ℤ b → b ≤ℤ c → a ≤ℤ c
≤ℤ_trans a b c h k = omega (arith, ints)

-- ---- tests

pub le_from_true : (a b : ℤ) → int_le a b ≡ true → a ≤ℤ b
le_from_true a b e = omega (arith, ints)

pub le_is_true : (a b : ℤ) → a ≤ℤ b → int_le a b ≡ true
le_is_true a b h = sym (true_is_le a b (omega (arith, ints)))

pub le_is_false : (a b : ℤ) → b <ℤ a → int_le a b ≡ false
le_is_false a b h = sym (false_is_le a b (omega (arith, ints)))

pub lt_is_true : (a b : ℤ) → a <ℤ b → int_lt a b ≡ true
lt_is_true a b h = sym (true_is_lt a b (omega (arith, ints)))

pub lt_is_false : (a b : ℤ) → b ≤ℤ a → int_lt a b ≡ false
lt_is_false a b h = sym (false_is_lt a b (omega (arith, ints)))

-- ---- sums

pub sum_at_most : (x y u v : ℤ) → x ≤ℤ y → u ≤ℤ v → (x +ℤ u) ≤ℤ (y +ℤ v)
sum_at_most x y u v h k = omega (arith, ints)

-- ---- products

pub scaled_up : (n : ℕ) (a b : ℤ) → a ≤ℤ b → (pos n *ℤ a) ≤ℤ (pos n *ℤ b)
scaled_up n a b h = omega (arith, ints, mul-le-mul_left n (le_out a b h))

pub scaled_down : (n : ℕ) (a b : ℤ) → a ≤ℤ b → (negsuc n *ℤ b) ≤ℤ (negsuc n *ℤ a)
scaled_down n a b h = omega (arith, ints, mul-le-mul_left (suc n) (le_out a b h))

-- ---- quotients

-- what a multiple and a room bound together, their quotients bound too
pub quotient_at_most : (n P Q r s : ℕ) → suc n * P + r ≤ suc n * Q + s → P + r / suc n ≤ Q + s / suc n
quotient_at_most n P Q r s h =
    let small : r % suc n < suc n = mod-lt r (omega arith) in
    let less : s % suc n < suc n = mod-lt s (omega arith) in
    let below : suc n * (P + r / suc n) < suc n * (Q + s / suc n + 1) = omega (arith, div-add-mod r (suc n), div-add-mod s (suc n)) in
    let strict : P + r / suc n < Q + s / suc n + 1 = lt_of_mul-lt-mul_left (suc n) below in
    omega arith
