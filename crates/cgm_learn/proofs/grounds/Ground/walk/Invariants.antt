use Rattle.cgm_learn.specs.Walking.{IsPlaceOf, IsWalk}
use Rattle.cgm_learn.proofs.grounds.Ground.walk.Given as goal

abbrev pub invariant-loop-walk : goal.invariant-loop-walk
invariant-loop-walk l = record {
  walk : IsWalk l.self l.trail l.walk;
  base : IsPlaceOf l.trail l.base;
}

abbrev pub decreases-loop-walk : goal.decreases-loop-walk
decreases-loop-walk l = l.walk.place.at
