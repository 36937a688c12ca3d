use Rattle.std.proofs.Common.{◌≤◌}
use Rattle.cgm_atom.specs.Laws.{IsSmaller}
use Rattle.cgm_learn.specs.Walking.{IsPlaceOf}
use Rattle.cgm_learn.proofs.places.go_back_within.Given as goal

abbrev pub invariant-loop-place : goal.invariant-loop-place
invariant-loop-place l = record {
  place : IsPlaceOf l.trail l.place;
  earlier : l.place.at ≤ l.fn.place.at;
  inside : IsSmaller l.place.state l.rest;
}

abbrev pub decreases-loop-place : goal.decreases-loop-place
decreases-loop-place l = l.place.at
