use Rattle.std.proofs.Common.{◌≡◌, ◌∙◌, suc, ◌-◌, ap, sym, arith}
use Rattle.std.proofs.lemmas.List.Sorted.{IsPermutation-trans}
use Rattle.cgm_split.specs.Drawing.{shuffled}
use Rattle.cgm_split.proofs.Shuffling.{shuffled_more}
use Rattle.cgm_split.proofs.drawing.shuffle.Goals as goal

pub loop-place-preserved : goal.loop-place-preserved
loop-place-preserved c =
    let more : c.loop-place.place ≡ suc (c.loop-place.place - 1) = omega (arith, c.loop-place-test.true) in
    record {
      long = c.swap.ensures.len ∙ c.loop-place.invariant.long;
      within = omega (arith, c.swap.ensures.len, c.loop-place.invariant.within);
      order = c.loop-place.invariant.order
          ∙ shuffled_more c.loop-place.place (c.loop-place.place - 1) c.next_word-word.result c.loop-place.words c.next_word-word.new.self c.loop-place.variables more c.next_word-word.ensures
          ∙ ap (shuffled (c.loop-place.place - 1) c.next_word-word.new.self) (sym c.swap.ensures.after);
      permutation = IsPermutation-trans _ _ _ c.loop-place.invariant.permutation c.swap.ensures.permutation;
    }
