use Rattle.cgm_search.proofs.WholeWorkers.{whole_new}
use Rattle.cgm_search.proofs.workers.Worker.new.Goals as goal

pub invariant_of-result : goal.invariant_of-result
invariant_of-result g c =
    whole_new c.in-Ok.search (g.T.Trader.seat c.args.trader) c.args.problem.now
    c.in-Ok.ensures.ready c.in-Ok.ensures.problem c.requires.problem c.requires.told c.in-Ok.ensures.nothing c.requires.own c.in-Ok.ensures.trail
    (rw c.in-Ok.ensures.plan c.requires.trades) (rw c.in-Ok.ensures.worker c.requires.number)
