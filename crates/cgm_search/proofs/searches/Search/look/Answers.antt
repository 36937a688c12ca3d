use Rattle.std.proofs.Common.{sym, ◌∙◌}
use Rattle.cgm_search.specs.Knowing.{seen}
use Rattle.cgm_search.proofs.LandedBatches.{longer}
use Rattle.cgm_search.proofs.Readiness.{ready_traded}
use Rattle.cgm_search.proofs.searches.Search.look.Goals as goal

pub returns-clause-answer : goal.returns-clause-answer
returns-clause-answer g c =
    let old = c.args.self.now in
    let new = c.exchange.new.self in (
      ready_traded old new c.requires.ready c.exchange.ensures.traded c.in_ok-exchange.ensures.known (sym c.is_closed.ensures ∙ c.if-is_closed.false)
          (longer old.known.problem (seen old.known) (seen new.known) c.empty_batch-batch.result c.in_ok-exchange.ensures.landed),
      c.in_ok-exchange.ensures.told,
    )
