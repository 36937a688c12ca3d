use Rattle.std.proofs.Common.{refl}
use Rattle.cgm_search.proofs.Readiness.{need_restarted, ready_restarted}
use Rattle.cgm_search.proofs.searches.Search.restart.Goals as goal

pub returns-clause-ready : goal.returns-clause-ready
returns-clause-ready c =
    ready_restarted c.args.self.now _ c.requires.ready (record { known = refl; choice = refl; plan = refl; worker = refl }) c.requires.moves c.requires.restarts c.restart.ensures

pub returns-clause-need : goal.returns-clause-need
returns-clause-need c =
    need_restarted c.args.self.now (record c.args.self.now { trail = c.restart.new.self }) refl c.requires.moves c.restart.ensures
