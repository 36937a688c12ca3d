use Rattle.std.proofs.Common.{drop}
use Rattle.cgm_encode.proofs.LeastSums.{IsLeastSoFar}
use Rattle.cgm_encode.proofs.ranges.least_activity.Given as goal

abbrev pub invariant-loop-term : goal.invariant-loop-term
invariant-loop-term l =
    IsLeastSoFar l.builder.bounds l.terms (drop l.term-index l.terms) l.sum
