-- What the sums of a model are under an assignment, and the weight.
use Rattle.std.specs.Prelude.{ℕ, ◌==◌, ◌&&◌, if◌then◌else◌, List, [], ◌∷◌, map, length, ℤ, pos, ◌+ℤ◌, ◌-ℤ◌}
use Rattle.std.specs.List.{range_with_len}
use Rattle.cgm_formula.specs.declared.assignment.Assignment.{Assignment}
use Rattle.cgm_formula.specs.declared.formula.Truth.TheVariants.{Element}
use Rattle.cgm_formula.specs.Reading.{name_in}
use Rattle.cgm_model.specs.declared.lists.Lists.{Lists}
use Rattle.cgm_model.specs.declared.lists.SumValue.{SumValue}
use Rattle.cgm_model.specs.declared.lists.Weighing.{Weighing}

-- the number of each item, added up
abbrev pub total_by : {X : Type 0} → (X → ℤ) → List X → ℤ
total_by number [] = pos 0
total_by number (x ∷ xs) = number x +ℤ total_by number xs

-- what a value line adds to this sum: its number, where it is one of the sum and its element or refinement is true
abbrev pub value_for : Assignment → ℕ → SumValue → ℤ
value_for a sum v = if (v.sum == sum) && name_in a v.of then v.k else pos 0

abbrev pub sum_value : Lists → Assignment → ℕ → ℤ
sum_value m a sum = total_by (value_for a sum) m.values

-- the value of each sum, in order
abbrev pub sums_of : Lists → Assignment → List ℤ
sums_of m a = map (sum_value m a) (range_with_len 0 (length m.sums))

-- the number of a reward or penalty whose element is true
abbrev pub weight_for : Assignment → Weighing → ℤ
weight_for a w = if name_in a (Element w.element) then w.k else pos 0

-- the penalties of true elements minus the rewards of true elements
abbrev pub weight : Lists → Assignment → ℤ
weight m a = total_by (weight_for a) m.penalties -ℤ total_by (weight_for a) m.rewards
