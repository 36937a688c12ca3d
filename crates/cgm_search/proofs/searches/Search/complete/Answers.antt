use Rattle.cgm_search.proofs.UnitParts.{unit_offered}
use Rattle.cgm_search.proofs.searches.Search.complete.Goals as goal

pub returns-in-Conflict-clause-unit : goal.returns-in-Conflict-clause-unit
returns-in-Conflict-clause-unit g c =
    unit_offered c.meet_conflict.result c.args.self.now c.offer.new.self c.propagate_cut.new.self c.meet_conflict.new.self
    (g.T.Trader.seat c.args.trader.now) (g.T.Trader.seat c.offer.new.trader) (g.T.Trader.seat c.meet_conflict.new.trader)
    c.offer.ensures.traded c.in_ok-offer.ensures.once c.propagate_cut.ensures.kept.plan c.propagate_cut.ensures.moves c.propagate_cut.ensures.level c.meet_conflict.ensures.unit
