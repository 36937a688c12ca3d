use Rattle.cgm_search.proofs.Readiness.{ready_new}
use Rattle.cgm_search.proofs.searches.Search.new.Goals as goal

pub returns-clause-ready : goal.returns-clause-ready
returns-clause-ready c =
    ready_new c.args.problem.now _ c.in_ok-known.ensures.known c.in_ok-known.ensures.problem c.in_ok-known.ensures.nothing c.in_ok-trail.ensures c.in_ok-choice.ensures.choice c.in_ok-choice.ensures.own_order c.requires.plan c.requires.worker
