use Rattle.std.proofs.Common.{◌≡◌, ℕ, ◌*◌, ◌≤◌, pos, ◌+ℤ◌, length, drop, get_or}
use Rattle.std.specs.Prelude.{unsigned_abs}
use Rattle.cgm_model.specs.Model.{lists_of}
use Rattle.cgm_model.specs.Sums.{total_by, value_for, sum_value}
use Rattle.cgm_model.proofs.totals.sums.Given as goal

abbrev pub invariant-loop-v : goal.invariant-loop-v
invariant-loop-v l =
    (length l.totals.items ≡ length l.model.sums)
    × ((k : ℕ) → get_or l.totals.items k (pos 0) +ℤ total_by (value_for l.assignment k) (drop l.v-index l.model.values) ≡ sum_value (lists_of l.model) l.assignment k)
    × ((k : ℕ) → unsigned_abs (get_or l.totals.items k (pos 0)) ≤ l.v-index * 1000000)
