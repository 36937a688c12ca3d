use Rattle.std.proofs.Common.{◌≡◌, ◌*◌, ◌≤◌, ◌+ℤ◌, drop}
use Rattle.std.specs.Prelude.{unsigned_abs}
use Rattle.cgm_model.specs.Sums.{total_by, weight_for}
use Rattle.cgm_obj.proofs.weights.total.Given as goal

abbrev pub invariant-loop-line : goal.invariant-loop-line
invariant-loop-line l =
    (l.total +ℤ total_by (weight_for l.assignment) (drop l.line-index l.lines) ≡ total_by (weight_for l.assignment) l.lines)
    × (unsigned_abs l.total ≤ l.line-index * 1000000)
