use Rattle.std.proofs.Common.{ℕ, cond}
use Rattle.std.specs.Prelude.{negsuc, pos}
use Rattle.cgm_model.specs.Model.{lists_of}
use Rattle.cgm_enc_formula.proofs.Mapped.{mapped_by, mapped_all}
use Rattle.cgm_encode.specs.Quantities.{was_true_before}
use Rattle.cgm_encode.proofs.quantities.changes.Goals as goal

pub loop-element-preserved : goal.loop-element-preserved
loop-element-preserved c =
    mapped_by (λ (x : ℕ). (cond (was_true_before (lists_of c.args.model.now) c.args.earlier.now.pairs x) (negsuc 0) (pos 1), x))
    c.args.elements.now c.loop-element.element-index 0 c.change.result c.loop-element.shares.items c.push.new.self.items
    c.loop-element-test.true c.loop-element.invariant c.change.ensures c.in_ok-push.ensures.items

pub returns : goal.returns
returns c =
    mapped_all (λ (x : ℕ). (cond (was_true_before (lists_of c.args.model.now) c.args.earlier.now.pairs x) (negsuc 0) (pos 1), x))
    c.args.elements.now c.loop-element.element-index c.loop-element.shares.items c.loop-element-test.false c.loop-element.invariant
