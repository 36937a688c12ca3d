-- The lexicographic order of vectors: at the first place at which they differ a lesser number.
use Rattle.std.specs.Prelude.{◌≡◌, ◌⊎◌, ℤ, List, [], ◌∷◌, ◌<ℤ◌}

abbrev pub IsLess : List ℤ → List ℤ → Type 0
IsLess [] vs = ⊥
IsLess (u ∷ us) [] = ⊥
IsLess (u ∷ us) (v ∷ vs) = (u <ℤ v) ⊎ ((u ≡ v) × IsLess us vs)
