use Rattle.std.proofs.Common.{◌-◌, ◌∙◌, sym, arith}
use Rattle.cgm_learn.proofs.Changes.{change_known, kept_within, place_limits}
use Rattle.cgm_learn.proofs.places.go_back_within.Goals as goal

pub is_met_before-requires : goal.is_met_before-requires
is_met_before-requires c =
    let known = change_known c.args.trail.now (c.loop-place.place.at - 1) c.change-change.result.now c.recall_trail.ensures c.change-change.ensures.found in
    let limits = place_limits c.args.trail.now c.loop-place.place c.recall_trail.ensures c.loop-place.invariant.place in
    omega (arith, known, limits.lower_count, c.loop-place.invariant.inside.lower_count)

pub loop-place-preserved : goal.loop-place-preserved
loop-place-preserved c = record {
  place = c.back.ensures.place;
  earlier = omega (arith, c.back.ensures.at, c.loop-place.invariant.earlier);
  inside =
      kept_within c.args.trail.now c.back.new.self c.loop-place.place c.args.rest.now c.change-change.result.now (c.loop-place.place.at - 1)
      c.recall_trail.ensures c.back.ensures.place c.loop-place.invariant.place c.back.ensures.at (omega arith) c.change-change.ensures.found
      c.loop-place.invariant.inside (sym c.is_met_before.ensures ∙ c.if-not-is_met_before.false);
}
