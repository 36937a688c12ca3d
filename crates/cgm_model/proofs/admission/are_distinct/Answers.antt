use Rattle.std.proofs.Common.{◌≡◌, ◌==◌, true, false, get_or, take, sym, ◌∙◌}
use Rattle.std.specs.List.{list_any}
use Rattle.cgm_model.proofs.Distinct.{distinct_more, distinct_fails}
use Rattle.cgm_model.proofs.Swaps.{eqb_swap}
use Rattle.cgm_model.proofs.admission.are_distinct.Goals as goal

pub returns-then-contains : goal.returns-then-contains
returns-then-contains c =
    let xs = c.args.numbers.now in
    let met : list_any (λ y. y == get_or xs c.loop-place.place 0) (take c.loop-place.place xs) ≡ true = sym c.contains.ensures.value ∙ c.if-contains.true in
    sym (distinct_fails (λ y x. y == x) eqb_swap xs c.loop-place.place 0 c.loop-place-test.true met)

pub loop-place-preserved : goal.loop-place-preserved
loop-place-preserved c =
    let xs = c.args.numbers.now in
    let unmet : list_any (λ y. y == get_or xs c.loop-place.place 0) (take c.loop-place.place xs) ≡ false = sym c.contains.ensures.value ∙ c.if-contains.false in
    distinct_more (λ y x. y == x) eqb_swap xs c.loop-place.place 0 c.loop-place-test.true c.loop-place.invariant unmet
