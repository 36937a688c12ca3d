use Rattle.cgm_search.proofs.UnitParts.{unit_propagated}
use Rattle.cgm_search.proofs.searches.Search.step.Goals as goal

pub returns-in-Conflict-clause-unit : goal.returns-in-Conflict-clause-unit
returns-in-Conflict-clause-unit g c =
    unit_propagated c.meet_conflict.result c.args.self.now c.propagate.new.self c.meet_conflict.new.self (g.T.Trader.seat c.args.trader.now) (g.T.Trader.seat c.meet_conflict.new.trader)
    c.propagate.ensures.kept.plan c.propagate.ensures.moves c.propagate.ensures.level c.meet_conflict.ensures.unit
