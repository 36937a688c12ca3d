use Rattle.cgm_log.proofs.Adding.{landed_after_news, own_after_news}
use Rattle.cgm_log.proofs.traders.AloneTrader.trade.Goals as goal

pub returns-clause-landed : goal.returns-clause-landed
returns-clause-landed c =
    landed_after_news c.args.self.now.log.problem c.args.self.now.log.entries c.trade.new.self.entries c.seen-seen.result c.args.batch c.trade.result
    c.seen-seen.ensures.count c.trade.ensures.news c.trade.ensures.landed

pub returns-clause-own : goal.returns-clause-own
returns-clause-own c =
    own_after_news c.args.self.now.log.problem c.args.self.now.log.entries c.trade.new.self.entries c.args.self.now.begun c.seen-seen.result c.args.batch c.trade.result
    c.args.self.now.front c.seen-seen.ensures.count c.trade.ensures.news c.trade.ensures.landed
