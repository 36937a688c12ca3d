use Rattle.cgm_search.proofs.WholeWorkers.{worker_here, worker_of}
use Rattle.cgm_search.proofs.workers.Worker.recall_worker.Goals as goal

pub returns : goal.returns
returns g c =
    let trader = c.self.inside.trader in
    worker_here _ _ c.self.view_is
    (worker_of c.self.inside.search (g.T.Trader.seat trader) (g.T.Trader.home trader) c.self.inside.ended c.self.invariant)
