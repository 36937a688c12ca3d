use Rattle.std.proofs.Common.{◌≡◌, take, map}
use Rattle.cgm_encode.specs.Building.{expression_range}
use Rattle.cgm_encode.proofs.ranges.ranges_of.Given as goal

abbrev pub invariant-loop-e : goal.invariant-loop-e
invariant-loop-e l =
    l.ranges.items ≡ map (expression_range l.builder.bounds) (take l.e-index l.expressions)
