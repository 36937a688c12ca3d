use Rattle.cgm_learn.specs.Walking.{IsPlaceOf}
use Rattle.cgm_learn.proofs.places.before_level.Given as goal

abbrev pub invariant-loop-place : goal.invariant-loop-place
invariant-loop-place l = IsPlaceOf l.trail l.place

abbrev pub decreases-loop-place : goal.decreases-loop-place
decreases-loop-place l = l.place.at
