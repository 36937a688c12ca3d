-- How large the terms of a formula's linear expressions are together, so that its value fits.
use Rattle.std.specs.Prelude.{ℕ, ◌+◌, ◌*◌, ◌^◌, ◌<◌, List, [], ◌∷◌, ℤ, unsigned_abs}
use Rattle.std.specs.List.{All}
use Rattle.cgm_formula.specs.declared.formula.Number.{Number}
use Rattle.cgm_formula.specs.declared.formula.Linear.{Linear}
use Rattle.cgm_formula.specs.declared.formula.Formula.{Formula}
use Rattle.cgm_formula.specs.Nodes.{comparisons}

-- the sizes of the terms' values, added up
abbrev pub size : (Number → ℤ) → List (ℤ × Number) → ℕ
size numbers [] = 0
size numbers (t ∷ terms) = unsigned_abs t.0 * unsigned_abs (numbers t.1) + size numbers terms

abbrev pub IsSmall : (Number → ℤ) → Linear → Type 0
IsSmall numbers l = size numbers l.terms < 2 ^ 127

-- each linear expression of the formula is small
abbrev pub AreSmallIn : (Number → ℤ) → Formula → Type 0
AreSmallIn numbers f = All (λ c. IsSmall numbers c.0) (comparisons f)
