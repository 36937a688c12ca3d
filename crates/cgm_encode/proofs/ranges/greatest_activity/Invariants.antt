use Rattle.std.proofs.Common.{drop}
use Rattle.cgm_atom.proofs.RowSums.{IsSumSoFar}
use Rattle.cgm_encode.proofs.ranges.greatest_activity.Given as goal

abbrev pub invariant-loop-term : goal.invariant-loop-term
invariant-loop-term l =
    IsSumSoFar l.builder.bounds l.terms (drop l.term-index l.terms) l.sum
