-- What a formula says, and the value of a linear expression, over a reading of its names and numbers.
use Rattle.std.specs.Prelude.{Bool, not, ◌&&◌, ◌||◌, if◌then◌else◌, List, [], ◌∷◌, ℤ, pos, ◌+ℤ◌, ◌*ℤ◌, int_le}
use Rattle.std.specs.List.{list_all, list_any}
use Rattle.cgm_formula.specs.declared.formula.Truth.{Truth}
use Rattle.cgm_formula.specs.declared.formula.Number.{Number}
use Rattle.cgm_formula.specs.declared.formula.Linear.{Linear}
use Rattle.cgm_formula.specs.declared.formula.Formula.{Formula}
use Rattle.cgm_formula.specs.declared.formula.Formula.TheOpen.{Formula-F}
use Rattle.cgm_formula.specs.declared.formula.Formula.TheFolds.{fold-Formula}

-- coefficient times number, added up over the terms
abbrev pub total : (Number → ℤ) → List (ℤ × Number) → ℤ
total numbers [] = pos 0
total numbers (t ∷ terms) = (t.0 *ℤ numbers t.1) +ℤ total numbers terms

abbrev pub linear_value : (Number → ℤ) → Linear → ℤ
linear_value numbers l = total numbers l.terms

-- both hold, or neither does
abbrev pub same_truth : Bool → Bool → Bool
same_truth a b = if a then b else not b

-- one level, with the truth of each part
abbrev pub truth_step : (Truth → Bool) → (Number → ℤ) → Formula-F Bool → Bool
truth_step names numbers (Formula-F.Name name) = names name
truth_step names numbers (Formula-F.Not part) = not part
truth_step names numbers (Formula-F.And parts) = list_all (λ part. part) parts
truth_step names numbers (Formula-F.Or parts) = list_any (λ part. part) parts
truth_step names numbers (Formula-F.Implies premise conclusion) = not premise || conclusion
truth_step names numbers (Formula-F.Iff one other) = same_truth one other
truth_step names numbers (Formula-F.AtMost l k) = int_le (linear_value numbers l) k
truth_step names numbers (Formula-F.AtLeast l k) = int_le k (linear_value numbers l)
truth_step names numbers (Formula-F.Equal l k) = int_le (linear_value numbers l) k && int_le k (linear_value numbers l)

-- a formula's truth, by recursion on the formula
abbrev pub truth : (Truth → Bool) → (Number → ℤ) → Formula → Bool
truth names numbers = fold-Formula Bool (truth_step names numbers)
