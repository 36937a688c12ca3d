-- The lexicographic order of vectors as a test, and vectors below a limit.
use Rattle.std.specs.Prelude.{Bool, true, false, ◌||◌, ◌&&◌, ℤ, List, [], ◌∷◌, int_le, int_lt, Option, Some, None}
use Rattle.cgm_base.specs.Order.{IsLess}

-- whether the first vector is less than the second
abbrev pub is_less : List ℤ → List ℤ → Bool
is_less [] vs = false
is_less (u ∷ us) [] = false
is_less (u ∷ us) (v ∷ vs) = int_lt u v || (int_le u v && is_less us vs)

-- less than the limit, if there is one
abbrev pub IsBelow : List ℤ → Option (List ℤ) → Type 0
IsBelow us None = Unit {0}
IsBelow us (Some vs) = IsLess us vs

abbrev pub is_below : List ℤ → Option (List ℤ) → Bool
is_below us None = true
is_below us (Some vs) = is_less us vs
