use Rattle.std.proofs.Common.{◌≡◌, ◌+◌, ◌-◌, ◌≤◌}
use Rattle.cgm_search.specs.Searching.{IsKeptSearch, IsReady, Sits, need}
use Rattle.cgm_log.specs.Seats.{KeepsOwn, KeepsSeat}
use Rattle.cgm_search.proofs.searches.Search.step_all.Given as goal

abbrev pub invariant-loop-stopped : goal.invariant-loop-stopped
invariant-loop-stopped g l = record {
  ready : IsReady l.self;
  seat : Sits l.self (g.T.Trader.seat l.trader);
  enough : need l.self ≤ (g.T.Trader.seat l.trader).trades;
  few : need l.self + (g.T.Trader.seat l.fn.trader).trades ≤ need l.fn.self + (g.T.Trader.seat l.trader).trades;
  kept : IsKeptSearch l.fn.self l.self;
  kept_seat : KeepsSeat (need l.fn.self) (g.T.Trader.seat l.fn.trader) (g.T.Trader.seat l.trader);
  own : KeepsOwn l.fn.self.worker (g.T.Trader.seat l.fn.trader) (g.T.Trader.seat l.trader);
  home : g.T.Trader.home l.trader ≡ g.T.Trader.home l.fn.trader;
}

abbrev pub decreases-loop-stopped : goal.decreases-loop-stopped
decreases-loop-stopped g l = l.self.plan.budget - l.self.trail.moves
