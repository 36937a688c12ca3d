use Rattle.std.proofs.Common.{arith, refl}
use Rattle.cgm_log.specs.Trading.{news_of}
use Rattle.cgm_search.specs.declared.searches.Search.{Search}
use Rattle.cgm_search.specs.Knowing.{seen}
use Rattle.cgm_search.proofs.LandedBatches.{landed_on_ok}
use Rattle.cgm_search.proofs.Seats.{accepted_after, own_landed, own_same, told_on_ok}
use Rattle.cgm_search.proofs.searches.Search.exchange.Goals as goal

pub returns-in-Ok-clause-told : goal.returns-in-Ok-clause-told
returns-in-Ok-clause-told g c =
    let new : Search = record c.args.self.now { known = c.take_up.new.self } in
    told_on_ok c.take_up.result c.args.self.now new (g.T.Trader.seat c.args.trader.now) (g.T.Trader.seat c.trade.new.self) c.in-Ok.traded c.args.batch c.in_ok-copy.copy
    c.requires.seat (record { problem = c.take_up.ensures.problem; trail = refl; choice = refl; plan = refl; worker = refl })
    c.trade.ensures.problem c.trade.ensures.number c.in-Ok.ensures.landed c.in_ok-copy.ensures c.take_up.ensures.entries

pub returns-in-Ok-clause-landed : goal.returns-in-Ok-clause-landed
returns-in-Ok-clause-landed g c =
    landed_on_ok c.take_up.result c.args.self.now.known.problem (seen c.args.self.now.known) (news_of c.in-Ok.traded) (seen c.take_up.new.self) c.args.batch c.in_ok-copy.copy
    c.in_ok-copy.ensures c.take_up.ensures.entries

pub take_up-requires-clause-answer : goal.take_up-requires-clause-answer
take_up-requires-clause-answer g c =
    rw (c.in_ok-copy.ensures, ← c.requires.seat.same_problem, ← c.requires.seat.same_entries) c.in-Ok.ensures.answer

pub returns-in-Ok-clause-seat : goal.returns-in-Ok-clause-seat
returns-in-Ok-clause-seat g c =
    let left = c.trade.ensures.left in
    record { problem = c.trade.ensures.problem; number = c.trade.ensures.number; trades = (omega (arith, left), omega (arith, left)) }

pub returns-in-Ok-clause-traded : goal.returns-in-Ok-clause-traded
returns-in-Ok-clause-traded g c =
    record { problem = c.take_up.ensures.problem; trail = refl; choice = refl; plan = refl; worker = refl }

pub take_up-requires-clause-accepted : goal.take_up-requires-clause-accepted
take_up-requires-clause-accepted g c =
    accepted_after c.args.self.now (g.T.Trader.seat c.args.trader.now) (g.T.Trader.seat c.trade.new.self) c.in-Ok.traded c.args.batch c.in_ok-copy.copy
    c.requires.seat c.trade.ensures.problem c.in-Ok.ensures.landed c.in_ok-copy.ensures c.seen-count.ensures.accepted

pub returns-in-Err-clause-own : goal.returns-in-Err-clause-own
returns-in-Err-clause-own g c =
    own_same (g.T.Trader.seat c.args.trader.now) (g.T.Trader.seat c.trade.new.self) c.args.self.now.worker c.in-Err.ensures.own_kept

pub returns-in-Ok-clause-own : goal.returns-in-Ok-clause-own
returns-in-Ok-clause-own g c =
    own_landed c.args.self.now.known.problem (seen c.args.self.now.known) (g.T.Trader.seat c.args.trader.now) (g.T.Trader.seat c.trade.new.self) c.in-Ok.traded c.args.batch c.args.self.now.worker
    c.requires.proper c.requires.own c.in-Ok.ensures.own
