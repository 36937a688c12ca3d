use Rattle.std.proofs.Common.{arith}
use Rattle.cgm_split.proofs.Shuffling.{order_of_drawn}
use Rattle.cgm_split.proofs.drawing.variable_order.Goals as goal

pub returns-clause-order : goal.returns-clause-order
returns-clause-order c =
    rw (order_of_drawn c.args.count c.args.seed c.args.worker (omega (arith, c.if-worker-eq0.false)))
    (cc (c.drawn_order.ensures.order, c.in_ok-variables.ensures.order, c.in_ok-variables.ensures.count, c.new.ensures))
