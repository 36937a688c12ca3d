use Rattle.std.proofs.Common.{◌≡◌, ◌≤◌, ◌+◌, ◌*◌, ◌∙◌, ap, get_or, drop, w64, rules, arith, pos, to_z, ℤ}
use Rattle.std.specs.Prelude.{FitsSigned, ◌+ℤ◌, unsigned_abs}
use Rattle.std.proofs.lemmas.Int.{to_z-of_z}
use Rattle.cgm_atom.specs.Limits.{greatest_size}
use Rattle.cgm_atom.specs.Narrowing.{greatest_term}
use Rattle.cgm_atom.proofs.RowSums.{IsSumSoFar, rest_at, sum_steps}
use Rattle.cgm_atom.proofs.rows.greatest_activity.Goals as goal

pub loop-term-preserved : goal.loop-term-preserved
loop-term-preserved c =
    let b = c.args.bounds.now in
    let terms = c.args.terms.now in
    let i = c.loop-term.term-index in
    let t = get_or terms i (pos 0, record { 0 = 0 }) in
    let sum = to_z w64 c.loop-term.sum-bits in
    let term_fits : FitsSigned w64 c.greatest_term.result = search rules in
    let sum_fits : FitsSigned w64 c.sum_of-sum.result = search rules in
    let term = to_z-of_z w64 c.greatest_term.result term_fits in
    let value : c.sum_of-sum.result ≡ sum +ℤ greatest_term b t.0 t.1.0 =
    c.sum_of-sum.ensures.value ∙ ap (λ (z : ℤ). sum +ℤ z) (term ∙ c.greatest_term.ensures.value) in
    let size : unsigned_abs c.sum_of-sum.result ≤ unsigned_abs sum + unsigned_abs t.0 * greatest_size b t.1.0 =
    omega (arith, c.greatest_term.ensures.size, rw term at c.sum_of-sum.ensures.size) in
    rw (to_z-of_z w64 c.sum_of-sum.result sum_fits)
    (sum_steps b terms (drop (i + 1) terms) t sum c.sum_of-sum.result value size
    (rest_at (λ rest. IsSumSoFar b terms rest sum) terms i (pos 0, record { 0 = 0 }) c.loop-term-test.true c.loop-term.invariant))
