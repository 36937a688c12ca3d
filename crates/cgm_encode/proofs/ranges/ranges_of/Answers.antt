use Rattle.std.proofs.Common.{ap, ◌∙◌, subst, sym}
use Rattle.cgm_enc_formula.proofs.Mapped.{mapped_by, mapped_all}
use Rattle.cgm_encode.specs.declared.expressions.Expression.{Expression}
use Rattle.cgm_encode.specs.Building.{expression_range, IsMeasured}
use Rattle.cgm_encode.proofs.ranges.ranges_of.Goals as goal

pub loop-e-preserved : goal.loop-e-preserved
loop-e-preserved c =
    let bounds = c.args.builder.now.bounds in
    mapped_by (expression_range bounds) c.args.expressions.now c.loop-e.e-index c.e-item.result c.range_of.result c.loop-e.ranges.items c.push.new.self.items
    c.loop-e-test.true c.loop-e.invariant (c.range_of.ensures ∙ ap (λ (e : Expression). expression_range bounds e) c.e-item.is) c.in_ok-push.ensures.items

pub range_of-requires : goal.range_of-requires
range_of-requires c =
    subst (λ (e : Expression). IsMeasured c.args.builder.now e) (sym c.e-item.is) (c.requires c.loop-e.e-index c.e-item.result c.loop-e-test.true)

pub returns : goal.returns
returns c = record {
  ranges = mapped_all (expression_range c.args.builder.now.bounds) c.args.expressions.now c.loop-e.e-index c.loop-e.ranges.items c.loop-e-test.false c.loop-e.invariant;
}
