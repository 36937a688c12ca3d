use Rattle.std.proofs.Common.{◌<◌, length, arith}
use Rattle.cgm_lex.proofs.Adding.{order_wider}
use Rattle.cgm_lex.proofs.Passing.{line_at, passed_more}
use Rattle.cgm_lex.proofs.lexer.tokens.Goals as goal

pub returns-in_default-clause-order : goal.returns-in_default-clause-order
returns-in_default-clause-order c =
    let text = c.args.bytes.now in
    order_wider text 0 c.line_end-end.result (length text) c.add_tokens.new.tokens.items (c.in_ok-fault.ensures.order c.loop-start.invariant.order) c.line_end-end.ensures.within.1

pub loop-start-preserved : goal.loop-start-preserved
loop-start-preserved c =
    let text = c.args.bytes.now in
    let at = c.loop-start.start in
    let end = c.line_end-end.result in
    let within = c.line_end-end.ensures.within in
    let here = line_at text at end within.0 within.1 c.line_end-end.ensures.last c.line_end-end.ensures.more in
    let some : at < length text = omega (arith, c.loop-start-test.true) in
    rw c.min-start.ensures
    (passed_more text c.loop-start.line at end c.loop-start.tokens.items c.add_tokens.new.tokens.items c.loop-start.invariant some within.0 here
    (rw c.in-None.is at c.in_ok-fault.ensures.added) within.1 c.in_ok-fault.ensures.order (rw c.in-None.is at c.in_ok-fault.ensures.spans))
