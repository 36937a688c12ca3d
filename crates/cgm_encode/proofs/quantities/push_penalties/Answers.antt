use Rattle.std.proofs.Common.{rules}
use Rattle.std.specs.Prelude.{pos}
use Rattle.cgm_model.specs.declared.lists.Weighing.{Weighing}
use Rattle.cgm_enc_formula.proofs.Mapped.{appended_by, appended_all}
use Rattle.cgm_encode.proofs.quantities.push_penalties.Goals as goal

pub loop-w-preserved : goal.loop-w-preserved
loop-w-preserved c =
    let d : Weighing = record { element = 0; k = pos 0 } in
    appended_by (λ (w : Weighing). (w.k, w.element)) c.args.penalties.now c.loop-w.w-index d _ c.loop-w.shares.items c.push.new.self.items c.args.shares.now.items
    c.loop-w-test.true c.loop-w.invariant (search rules) c.in_ok-push.ensures.items

pub returns : goal.returns
returns c =
    appended_all (λ (w : Weighing). (w.k, w.element)) c.args.penalties.now c.loop-w.w-index c.loop-w.shares.items c.args.shares.now.items
    c.loop-w-test.false c.loop-w.invariant
