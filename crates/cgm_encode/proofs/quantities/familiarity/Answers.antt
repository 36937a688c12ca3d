use Rattle.std.proofs.Common.{◌≡◌, ℕ, ◌^◌, ◌<◌, cond, List, map, to_z, w64, ap, ◌∙◌, arith}
use Rattle.std.specs.Prelude.{count_by, negsuc, pos}
use Rattle.std.proofs.lemmas.Int.{to_z_pos}
use Rattle.std.proofs.lemmas.List.Sums.{count_by-le-length}
use Rattle.cgm_model.specs.Model.{lists_of}
use Rattle.cgm_encode.specs.Quantities.{was_true_before}
use Rattle.cgm_encode.specs.Totals.{Share}
use Rattle.cgm_encode.proofs.quantities.familiarity.Goals as goal

pub returns : goal.returns
returns c =
    let before = was_true_before (lists_of c.args.model.now) c.args.earlier.now.pairs in
    let change : ℕ → Share = λ x. (cond (before x) (negsuc 0) (pos 1), x) in
    let interest = c.as_slice.ensures.value ∙ c.in_ok-interest.ensures in
    let again = c.as_slice-2.ensures.value ∙ c.in_ok-interest.ensures in
    let few : c.true_before.result < 2 ^ 63 = omega (arith, c.true_before.ensures.count, count_by-le-length before c.as_slice-2.result.now, c.as_slice-2.type_inv.1) in
    let count : to_z w64 c.true_before.result ≡ pos c.true_before.result = to_z_pos w64 c.true_before.result few in (
      c.of.ensures ∙ c.in_ok-shares.ensures ∙ ap (λ (xs : List ℕ). map change xs) interest,
      count ∙ ap (λ (n : ℕ). pos n) (c.true_before.ensures.count ∙ ap (λ (xs : List ℕ). count_by before xs) again),
    )
