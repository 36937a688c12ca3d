use Rattle.std.proofs.Common.{◌+◌, drop, get_or}
use Rattle.std.specs.Prelude.{pos}
use Rattle.cgm_atom.proofs.RowSums.{rest_at}
use Rattle.cgm_encode.proofs.SharesSoFar.{AreCombinedSoFar, combined_more, combined_room}
use Rattle.cgm_encode.proofs.expressions.combine.Goals as goal

pub add_share-requires : goal.add_share-requires
add_share-requires c =
    let shares = c.args.shares.now in
    let i = c.loop-share.share-index in
    let old = c.loop-share.numbers in
    combined_room shares (drop (i + 1) shares) (get_or shares i (pos 0, 0)) old c.requires
    (rest_at (λ rest. AreCombinedSoFar shares rest old) shares i (pos 0, 0) c.loop-share-test.true c.loop-share.invariant)

pub loop-share-preserved : goal.loop-share-preserved
loop-share-preserved c =
    let shares = c.args.shares.now in
    let i = c.loop-share.share-index in
    let old = c.loop-share.numbers in
    combined_more shares (drop (i + 1) shares) (get_or shares i (pos 0, 0)) old c.add_share.new.numbers c.in_ok-add_share.ensures
    (rest_at (λ rest. AreCombinedSoFar shares rest old) shares i (pos 0, 0) c.loop-share-test.true c.loop-share.invariant)
