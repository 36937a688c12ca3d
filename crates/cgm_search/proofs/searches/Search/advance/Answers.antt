use Rattle.cgm_search.proofs.UnitParts.{unit_decided}
use Rattle.cgm_search.proofs.searches.Search.advance.Goals as goal

pub returns-in-Some-clause-unit : goal.returns-in-Some-clause-unit
returns-in-Some-clause-unit g c =
    unit_decided c.decide.result c.args.self.now c.decide.new.self (g.T.Trader.seat c.args.trader.now)
    c.decide.ensures.ready c.decide.ensures.known c.decide.ensures.kept.worker c.requires.seat c.decide.ensures.answer
