use Rattle.std.proofs.Common.{refl}
use Rattle.std.proofs.lemmas.Bool.{false≢true, iff_false}
use Rattle.cgm_model.specs.Assignment.{IsWithinBounds}
use Rattle.cgm_model.proofs.Places.{first_from_settled, never_both}
use Rattle.cgm_model.proofs.assignment.are_within.Goals as goal

pub returns-then-not-is_within : goal.returns-then-not-is_within
returns-then-not-is_within c =
    let P = IsWithinBounds c.args.values.now in
    let vars = c.args.vars.now in
    let i = c.loop-place.place in (
      λ e. absurd (false≢true e),
      λ each. absurd (never_both P 0 vars i each
          (first_from_settled P vars vars i c.index-vars-place.result refl c.loop-place-test.true c.index-vars-place.is (iff_false c.is_within.ensures c.if-not-is_within.true) c.loop-place.invariant)),
    )
