use Rattle.std.specs.Prelude.{neg_ℤ, pos}
use Rattle.cgm_model.specs.declared.lists.Weighing.{Weighing}
use Rattle.cgm_enc_formula.proofs.Mapped.{appended_by, appended_all}
use Rattle.cgm_encode.proofs.quantities.push_rewards.Goals as goal

pub loop-w-preserved : goal.loop-w-preserved
loop-w-preserved c =
    let d : Weighing = record { element = 0; k = pos 0 } in
    appended_by (λ (w : Weighing). (neg_ℤ w.k, w.element)) c.args.rewards.now c.loop-w.w-index d c.reward_share.result c.loop-w.shares.items c.push.new.self.items c.args.shares.now.items
    c.loop-w-test.true c.loop-w.invariant c.reward_share.ensures c.in_ok-push.ensures.items

pub returns : goal.returns
returns c =
    appended_all (λ (w : Weighing). (neg_ℤ w.k, w.element)) c.args.rewards.now c.loop-w.w-index c.loop-w.shares.items c.args.shares.now.items
    c.loop-w-test.false c.loop-w.invariant
