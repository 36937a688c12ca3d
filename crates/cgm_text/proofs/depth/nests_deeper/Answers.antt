use Rattle.std.proofs.Common.{◌∙◌, sym}
use Rattle.cgm_text.proofs.DepthSteps.{deeper, no_deeper}
use Rattle.cgm_text.proofs.depth.nests_deeper.Goals as goal

pub returns-then-unclosed-most : goal.returns-then-unclosed-most
returns-then-unclosed-most c = λ line.
    sym (c.loop-token.invariant.1 line ∙ deeper line c.args.tokens.now c.loop-token.token-index c.args.most c.loop-token.unclosed c.open_after-unclosed.result _ c.loop-token-test.true c.open_after-unclosed.ensures c.if-unclosed-most.true)

pub loop-token-preserved : goal.loop-token-preserved
loop-token-preserved c =
    (c.if-unclosed-most.false, λ line. c.loop-token.invariant.1 line ∙ no_deeper line c.args.tokens.now c.loop-token.token-index c.args.most c.loop-token.unclosed c.open_after-unclosed.result _ c.loop-token-test.true c.open_after-unclosed.ensures c.if-unclosed-most.false)
