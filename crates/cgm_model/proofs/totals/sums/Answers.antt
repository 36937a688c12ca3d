use Rattle.std.proofs.Common.{pos, length, get_or, ap, ◌∙◌, arith}
use Rattle.std.proofs.lemmas.List.{get_or_default}
use Rattle.cgm_formula.specs.declared.formula.Truth.TheVariants.{Element}
use Rattle.cgm_model.specs.declared.lists.SumValue.{SumValue}
use Rattle.cgm_model.specs.Model.{lists_of}
use Rattle.cgm_model.specs.Sums.{sum_value}
use Rattle.cgm_model.proofs.Counting.{total_more, size_more, totals_done}
use Rattle.cgm_model.proofs.totals.sums.Goals as goal

pub loop-v-preserved : goal.loop-v-preserved
loop-v-preserved c =
    let m = lists_of c.args.model.now in
    let a = c.args.assignment.now in
    let items = c.values-v-items.result.now in
    let i = c.loop-v.v-index in
    let none : SumValue = record { sum = 0; of = Element 0; k = pos 0 } in
    let v : SumValue = get_or items i none in
    let at = get_or_default items i none v c.loop-v-test.true in
    let old = c.loop-v.totals.items in
    let new = c.add.new.totals.items in
    let h = c.loop-v.invariant in (
      c.add.ensures.long ∙ h.0,
      λ k. total_more a m.values items i k v (get_or old k (pos 0)) (get_or new k (pos 0)) (sum_value m a k) c.values-v-items.ensures.items c.loop-v-test.true at (c.add.ensures.added k) (h.1 k),
      λ k. size_more a i k v (get_or old k (pos 0)) (get_or new k (pos 0)) (c.values-v-items.ensures.small i none c.loop-v-test.true) (c.add.ensures.added k) (h.2 k),
    )

pub returns : goal.returns
returns c =
    let m = lists_of c.args.model.now in
    let long = ap length c.values-v-items.ensures.items in
    totals_done m c.args.assignment.now c.loop-v.totals.items c.loop-v.v-index (omega (arith, long, c.loop-v-test.false)) c.loop-v.invariant.0 c.loop-v.invariant.1
