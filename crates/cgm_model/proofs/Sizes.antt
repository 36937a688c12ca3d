-- How large the sums of a well-formed model can be, and its weight.
use Rattle.std.proofs.Common.{◌≡◌, ℕ, suc, ◌+◌, ◌*◌, ◌<◌, ◌≤◌, ◌&&◌, ◌==◌, Bool, true, false, cond, List, [], ◌∷◌, ℤ, pos, ◌+ℤ◌, ◌-ℤ◌, length, get_or, ap, All, arith, ⊎_elim}
use Rattle.std.specs.Prelude.{unsigned_abs}
use Rattle.std.proofs.lemmas.Bool.{cases_lt}
use Rattle.std.proofs.lemmas.Int.{ints}
use Rattle.std.proofs.lemmas.List.{get_or_past}
use Rattle.std.proofs.lemmas.List.FromFn.{length-map-range_with_len, get_or-map-range_with_len}
use Rattle.cgm_formula.specs.declared.assignment.Assignment.{Assignment}
use Rattle.cgm_formula.specs.declared.formula.Truth.TheVariants.{Element}
use Rattle.cgm_formula.specs.Reading.{name_in}
use Rattle.cgm_model.specs.declared.lists.Lists.{Lists}
use Rattle.cgm_model.specs.declared.lists.SumValue.{SumValue}
use Rattle.cgm_model.specs.declared.lists.Weighing.{Weighing}
use Rattle.cgm_model.specs.Sums.{total_by, value_for, sum_value, sums_of, weight_for, weight}
use Rattle.cgm_model.specs.WellFormed.{IsWellFormedModel}

-- ---- signed steps

pub added_size : (x y : ℤ) (a b : ℕ) → unsigned_abs x ≤ a → unsigned_abs y ≤ b → unsigned_abs (x +ℤ y) ≤ a + b
added_size x y a b small large = omega (arith, ints)

taken_size : (x y : ℤ) (a b : ℕ) → unsigned_abs x ≤ a → unsigned_abs y ≤ b → unsigned_abs (x -ℤ y) ≤ a + b
taken_size x y a b small large = omega (arith, ints)

picked_size : (picks : Bool) (k : ℤ) (most : ℕ) → unsigned_abs k ≤ most → unsigned_abs (cond picks k (pos 0)) ≤ most
picked_size true k most small = small
picked_size false k most small = omega arith

-- ---- a total has no greater size than its items have together

pub total_size : {X : Type 0} (number : X → ℤ) (xs : List X) → All (λ x. unsigned_abs (number x) ≤ 1000000) xs → unsigned_abs (total_by number xs) ≤ length xs * 1000000
total_size number [] small = omega arith
total_size number (x ∷ xs) small =
    let later = total_size number xs (λ k d l. small (suc k) d (omega arith)) in
    let both = added_size (number x) (total_by number xs) 1000000 (length xs * 1000000) (small 0 x (omega arith)) later in
    omega (arith, both)

-- ---- sums

pub value_number_size : (a : Assignment) (sum : ℕ) (v : SumValue) → unsigned_abs v.k ≤ 1000000 → unsigned_abs (value_for a sum v) ≤ 1000000
value_number_size a sum v small = picked_size ((v.sum == sum) && name_in a v.of) v.k 1000000 small

pub sum_size : (m : Lists) → IsWellFormedModel m → (a : Assignment) (sum : ℕ) → unsigned_abs (sum_value m a sum) ≤ 1000000000000
sum_size m w a sum =
    let whole = total_size (value_for a sum) m.values (λ k d l. value_number_size a sum (get_or m.values k d) (w.values k d l).small) in
    omega (arith, whole, w.limits.statements)

-- the value of a sum that is there
pub sum_at : (m : Lists) (a : Assignment) (k : ℕ) → k < length m.sums → get_or (sums_of m a) k (pos 0) ≡ sum_value m a k
sum_at m a k l = get_or-map-range_with_len (sum_value m a) 0 (length m.sums) k k (pos 0) l (omega arith)

pub sums_size : (m : Lists) → IsWellFormedModel m → (a : Assignment) (k : ℕ) → unsigned_abs (get_or (sums_of m a) k (pos 0)) ≤ 1000000000000
sums_size m w a k =
    ⊎_elim
    (λ there. let at = ap unsigned_abs (sum_at m a k there) in omega (arith, at, sum_size m w a k))
    (λ past.
    let long = length-map-range_with_len (sum_value m a) 0 (length m.sums) in
    let none = ap unsigned_abs (get_or_past (sums_of m a) k (pos 0) (omega (arith, long))) in
    omega (arith, none))
    (cases_lt k (length m.sums))

-- ---- the weight

pub weight_number_size : (a : Assignment) (w : Weighing) → unsigned_abs w.k ≤ 1000000 → unsigned_abs (weight_for a w) ≤ 1000000
weight_number_size a w small = picked_size (name_in a (Element w.element)) w.k 1000000 small

pub weight_size : (m : Lists) → IsWellFormedModel m → (a : Assignment) → unsigned_abs (weight m a) ≤ 1000000000000
weight_size m w a =
    let penalties = total_size (weight_for a) m.penalties (λ k d l. weight_number_size a (get_or m.penalties k d) (w.penalties k d l).small) in
    let rewards = total_size (weight_for a) m.rewards (λ k d l. weight_number_size a (get_or m.rewards k d) (w.rewards k d l).small) in
    let both = taken_size (total_by (weight_for a) m.penalties) (total_by (weight_for a) m.rewards) (length m.penalties * 1000000) (length m.rewards * 1000000) penalties rewards in
    omega (arith, both, w.limits.statements)
