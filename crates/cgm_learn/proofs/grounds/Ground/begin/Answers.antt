use Rattle.std.proofs.Common.{ap, subst, sym, ◌∙◌}
use Rattle.cgm_learn.specs.declared.places.Place.{Place}
use Rattle.cgm_learn.specs.Walking.{IsPlaceOf}
use Rattle.cgm_learn.proofs.grounds.Ground.begin.Goals as goal

pub take_conflict-requires-clause-first : goal.take_conflict-requires-clause-first
take_conflict-requires-clause-first c = record {
  whole = c.in_ok-of.ensures.bounds ∙ ap (λ p. p.bounds) c.problem.ensures.problem;
  no_hints = c.new.ensures.hints;
  no_bound = c.new.ensures.bound;
}

pub returns : goal.returns
returns c = record {
  place = subst (λ (w : Place). IsPlaceOf c.args.trail.now w) (sym c.take_conflict.ensures.place) c.in_ok-last.ensures.place;
  needed = c.in_ok-take_conflict.ensures.needed;
}
