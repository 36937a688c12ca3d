use Rattle.std.proofs.Common.{rules, ◌≡◌, get_or, w64, to_z, of_z, ℤ, pos, ◌+ℤ◌}
use Rattle.std.specs.Prelude.{FitsSigned}
use Rattle.std.proofs.lemmas.Int.{to_z-of_z}
use Rattle.cgm_atom.specs.declared.constraints.Var.{Var}
use Rattle.cgm_atom.specs.Instance.{var_count}
use Rattle.cgm_atom.proofs.Sums.{IsSumBefore-more}
use Rattle.cgm_atom.proofs.checks.activity_of.Goals as goal

pub loop-coefficient-preserved : goal.loop-coefficient-preserved
loop-coefficient-preserved c =
    let terms = c.args.terms.now in
    let none : ℤ × Var = (pos 0, record { 0 = 0 }) in
    let i = c.loop-coefficient.coefficient-index in
    let sum = to_z w64 c.loop-coefficient.sum-bits in
    let term = c.term_value.result in
    let fits : FitsSigned w64 (get_or terms i none).0 = search rules in
    let coefficient : to_z w64 (of_z w64 (get_or terms i none).0) ≡ (get_or terms i none).0 = to_z-of_z w64 (get_or terms i none).0 fits in
    let new : to_z w64 (of_z w64 c.sum_of-sum.result) ≡ sum +ℤ term = search rules in
    rw new
    (IsSumBefore-more c.args.values.now c.args.problem.now.bounds (var_count c.args.problem.now) terms i none sum term c.loop-coefficient-test.true
    (rw coefficient at c.term_value.ensures.value) (rw coefficient at c.term_value.ensures.size) c.loop-coefficient.invariant)
