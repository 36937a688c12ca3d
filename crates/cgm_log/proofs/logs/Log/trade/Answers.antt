-- The batch is proper after the whole log, since this isn't closed.
use Rattle.std.proofs.Common.{sym, ◌∙◌}
use Rattle.cgm_log.proofs.LaterLandings.{proper_on_log}
use Rattle.cgm_log.proofs.logs.Log.trade.Goals as goal

pub land-requires-clause-proper : goal.land-requires-clause-proper
land-requires-clause-proper c =
    proper_on_log c.args.self.now.problem c.args.self.now.entries c.args.seen c.args.batch (sym c.closed.ensures.closed ∙ c.if-closed.false) c.requires.proper
