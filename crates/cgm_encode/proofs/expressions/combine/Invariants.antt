use Rattle.std.proofs.Common.{drop}
use Rattle.cgm_encode.proofs.SharesSoFar.{AreCombinedSoFar}
use Rattle.cgm_encode.proofs.expressions.combine.Given as goal

abbrev pub invariant-loop-share : goal.invariant-loop-share
invariant-loop-share l =
    AreCombinedSoFar l.shares (drop l.share-index l.shares) l.numbers
