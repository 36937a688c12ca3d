use Rattle.std.specs.Prelude.{neg_ℤ, pos}
use Rattle.cgm_enc_formula.proofs.Mapped.{mapped_by, mapped_all}
use Rattle.cgm_encode.specs.Totals.{Share}
use Rattle.cgm_encode.proofs.quantities.opposite_shares.Goals as goal

pub loop-share-preserved : goal.loop-share-preserved
loop-share-preserved c =
    mapped_by (λ (s : Share). (neg_ℤ s.0, s.1)) c.args.shares.now c.loop-share.share-index (pos 0, 0) c.opposite_share.result c.loop-share.opposites.items c.push.new.self.items
    c.loop-share-test.true c.loop-share.invariant c.opposite_share.ensures c.in_ok-push.ensures.items

pub opposite_share-requires : goal.opposite_share-requires
opposite_share-requires c = c.requires c.loop-share.share-index (pos 0, 0) c.loop-share-test.true

pub returns : goal.returns
returns c =
    mapped_all (λ (s : Share). (neg_ℤ s.0, s.1)) c.args.shares.now c.loop-share.share-index c.loop-share.opposites.items c.loop-share-test.false c.loop-share.invariant
