-- Splitting a box in halves: which variables are fixed, and what the lower half of one that isn't asks for.
use Rattle.std.specs.Prelude.{◌≡◌, Bool, false, ℕ, ◌<◌, length, ℤ, pos, ◌+ℤ◌, ◌≤ℤ◌, int_lt}
use Rattle.cgm_atom.specs.declared.constraints.Atom.{Atom}
use Rattle.cgm_atom.specs.declared.constraints.Var.{Var}
use Rattle.cgm_atom.specs.Bounds.{Bounds, lower_of, upper_of}
use Rattle.cgm_atom.specs.Narrowing.{is_false_in, is_true_in}

-- variable x has one value in the box
abbrev pub IsFixed : Bounds → ℕ → Type 0
IsFixed b x = lower_of b x ≡ upper_of b x

-- the box holds one value of each variable
abbrev pub IsPoint : Bounds → Type 0
IsPoint b = (x : ℕ) → x < length b.lower → IsFixed b x

-- a variable isn't fixed where its least value is less than its greatest
abbrev pub is_unfixed : Bounds → Var → Bool
is_unfixed b v = int_lt (lower_of b v.0) (upper_of b v.0)

-- k is the floor of half the sum
abbrev pub IsMiddle : ℤ → ℤ → ℤ → Type 0
IsMiddle lo hi k = ((k +ℤ k) ≤ℤ (lo +ℤ hi)) × ((lo +ℤ hi) ≤ℤ ((k +ℤ k) +ℤ pos 1))

-- the atom `v <= k`, where k is the middle of the variable's values; it is neither true nor false in the box
pub record IsLowerHalf (b : Bounds) (v : Var) (a : Atom) : Type 0 where
  pub var : a.var ≡ v
  pub at_most : a.at_least ≡ false
  pub middle : IsMiddle (lower_of b v.0) (upper_of b v.0) a.k
  pub not_true : is_true_in b a ≡ false
  pub not_false : is_false_in b a ≡ false
