use Rattle.std.proofs.Common.{◌≡◌, ℕ, ◌+◌, ◌*◌, ◌≤◌, List, drop, of_z, to_z, w64, sym, ap, ◌∙◌, arith, rules}
use Rattle.std.specs.Prelude.{ℤ, pos, ◌+ℤ◌, unsigned_abs}
use Rattle.std.proofs.lemmas.Int.{ints}
use Rattle.std.proofs.lemmas.List.{drop_more}
use Rattle.cgm_model.specs.declared.lists.Weighing.{Weighing}
use Rattle.cgm_model.specs.Sums.{total_by, weight_for}
use Rattle.cgm_obj.proofs.weights.total.Goals as goal

-- with the line added, what is left comes to all, and the sum has grown by at most its number
one_more : (old number passed sum new rest left all : ℤ) (i : ℕ) → passed ≡ number → sum ≡ old +ℤ passed → new ≡ sum → left ≡ number +ℤ rest → old +ℤ left ≡ all → unsigned_abs old ≤ i * 1000000 → unsigned_abs number ≤ 1000000 → (new +ℤ rest ≡ all) × (unsigned_abs new ≤ (i + 1) * 1000000)
one_more old number passed sum new rest left all i same is last before far small few = (omega (arith, ints), omega (arith, ints))

pub loop-line-preserved : goal.loop-line-preserved
loop-line-preserved c =
    let by = weight_for c.args.assignment.now in
    let lines = c.args.lines.now in
    let i = c.loop-line.line-index in
    let d : Weighing = record { element = 0; k = pos 0 } in
    let passed : to_z w64 (of_z w64 c.number_for.result) ≡ c.number_for.result = search rules in
    let new : to_z w64 (of_z w64 c.plus-total.result) ≡ c.plus-total.result = search rules in
    one_more (to_z w64 c.loop-line.total-bits) c.number_for.result (to_z w64 (of_z w64 c.number_for.result)) c.plus-total.result (to_z w64 (of_z w64 c.plus-total.result))
    (total_by by (drop (i + 1) lines)) (total_by by (drop i lines)) (total_by by lines) i
    passed c.plus-total.ensures new (ap (λ (ws : List Weighing). total_by by ws) (drop_more lines i d c.loop-line-test.true) ∙ ap (λ (n : ℤ). n +ℤ total_by by (drop (i + 1) lines)) (sym c.number_for.ensures.number)) c.loop-line.invariant.0 c.loop-line.invariant.1 c.number_for.ensures.small
