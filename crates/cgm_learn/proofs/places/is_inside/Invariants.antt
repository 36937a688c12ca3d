use Rattle.std.proofs.Common.{◌<◌, ℕ}
use Rattle.cgm_learn.specs.Walking.{IsInsideAt}
use Rattle.cgm_learn.proofs.places.is_inside.Given as goal

abbrev pub invariant-loop-v : goal.invariant-loop-v
invariant-loop-v l = (x : ℕ) → x < l.v → IsInsideAt l.inner l.outer x
