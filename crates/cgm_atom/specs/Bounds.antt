-- A box gives each variable, by its number, a least and a greatest value; past its end both are 0.
use Rattle.std.specs.Prelude.{ℕ, ℤ, pos, List, length, slice_index_or, ◌≡◌, ◌≤ℤ◌}

pub record Bounds : Type 0 where
  pub lower : List ℤ
  pub upper : List ℤ

-- the value of variable x
abbrev pub value_of : List ℤ → ℕ → ℤ
value_of values x = slice_index_or values x (pos 0)

abbrev pub lower_of : Bounds → ℕ → ℤ
lower_of b x = value_of b.lower x

abbrev pub upper_of : Bounds → ℕ → ℤ
upper_of b x = value_of b.upper x

-- each value lies in the box
abbrev pub IsWithin : Bounds → List ℤ → Type 0
IsWithin b values = (x : ℕ) → (lower_of b x ≤ℤ value_of values x) × (value_of values x ≤ℤ upper_of b x)

-- each value of the inner box is one of the outer
abbrev pub IsInside : Bounds → Bounds → Type 0
IsInside inner outer = (x : ℕ) → (lower_of outer x ≤ℤ lower_of inner x) × (upper_of inner x ≤ℤ upper_of outer x)

-- each variable has a least and a greatest value, in this order
pub record AreProperBounds (b : Bounds) : Type 0 where
  pub same_count : length b.upper ≡ length b.lower
  pub ordered : (x : ℕ) → lower_of b x ≤ℤ upper_of b x

-- the box of a problem with these limits
pub record IsBoxOf (limits b : Bounds) : Type 0 where
  pub lower_count : length b.lower ≡ length limits.lower
  pub upper_count : length b.upper ≡ length limits.lower
  pub inside : IsInside b limits
  pub ordered : (x : ℕ) → lower_of b x ≤ℤ upper_of b x
