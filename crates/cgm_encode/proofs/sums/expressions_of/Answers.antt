use Rattle.std.proofs.Common.{◌<◌, ◌^◌, List, ap, subst, sym, ◌∙◌}
use Rattle.std.specs.List.{All}
use Rattle.cgm_model.specs.Model.{lists_of}
use Rattle.cgm_model.specs.TruthVariables.{truth_variables}
use Rattle.cgm_enc_formula.proofs.Mapped.{mapped_by}
use Rattle.cgm_encode.specs.declared.expressions.Expression.{Expression}
use Rattle.cgm_encode.specs.Building.{expression_of, share_size}
use Rattle.cgm_encode.specs.Quantities.{plain}
use Rattle.cgm_encode.specs.Totals.{Share}
use Rattle.cgm_encode.proofs.sums.expressions_of.Goals as goal

pub expression-requires-clause-known : goal.expression-requires-clause-known
expression-requires-clause-known c =
    let P : List Share → Type 0 = λ shares. All (λ s. s.1 < truth_variables (lists_of c.args.model.now)) shares in
    subst P (sym (c.as_slice.ensures ∙ c.shares-item.is)) (c.requires.known c.loop-shares.shares-index c.shares-item.result c.loop-shares-test.true)

pub expression-requires-clause-small : goal.expression-requires-clause-small
expression-requires-clause-small c =
    let P : List Share → Type 0 = λ shares. share_size shares < 2 ^ 63 in
    subst P (sym (c.as_slice.ensures ∙ c.shares-item.is)) (c.requires.small c.loop-shares.shares-index c.shares-item.result c.loop-shares-test.true)

pub loop-shares-preserved : goal.loop-shares-preserved
loop-shares-preserved c =
    let f : List Share → Expression = λ shares. expression_of (truth_variables (lists_of c.args.model.now)) (plain shares) in
    mapped_by f c.args.lists.now c.loop-shares.shares-index c.shares-item.result c.in_ok-expression.field-0 c.loop-shares.expressions.items c.push.new.self.items
    c.loop-shares-test.true c.loop-shares.invariant (c.in_ok-expression.ensures ∙ ap f (c.as_slice.ensures ∙ c.shares-item.is)) c.in_ok-push.ensures.items
