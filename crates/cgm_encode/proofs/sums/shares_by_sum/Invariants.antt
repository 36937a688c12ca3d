use Rattle.std.proofs.Common.{drop}
use Rattle.cgm_model.specs.Model.{lists_of}
use Rattle.cgm_encode.proofs.SharesBySum.{AreSoFar}
use Rattle.cgm_encode.proofs.sums.shares_by_sum.Given as goal

abbrev pub invariant-loop-v : goal.invariant-loop-v
invariant-loop-v l =
    AreSoFar (lists_of l.model) l.lists.items (drop l.v-index l.model.values)
