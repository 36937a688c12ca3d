use Rattle.std.proofs.Common.{◌≡◌, take, map}
use Rattle.std.specs.Prelude.{neg_ℤ}
use Rattle.cgm_encode.proofs.quantities.opposite_shares.Given as goal

abbrev pub invariant-loop-share : goal.invariant-loop-share
invariant-loop-share l =
    l.opposites.items ≡ map (λ s. (neg_ℤ s.0, s.1)) (take l.share-index l.shares)
