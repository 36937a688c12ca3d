use Rattle.std.proofs.Common.{subst, sym}
use Rattle.cgm_log.specs.declared.batches.Batch.{Batch}
use Rattle.cgm_log.specs.Landing.{IsProperBatch}
use Rattle.cgm_search.specs.Knowing.{seen}
use Rattle.cgm_search.proofs.LandedBatches.{longer_on_ok}
use Rattle.cgm_search.proofs.TakenLemmas.{proper_lemma, taken_on_ok}
use Rattle.cgm_search.proofs.searches.Search.trade_lemma.Goals as goal

pub exchange-requires-clause-proper : goal.exchange-requires-clause-proper
exchange-requires-clause-proper g c = λ _ _.
    let known = c.args.self.now.known in
    subst (λ (b : Batch). IsProperBatch known.problem (seen known) b) (sym c.in_ok-batch.ensures)
    (proper_lemma known c.args.self.now.worker c.args.lemma c.requires.ready.worker c.requires.lemma)

pub returns-clause-taken : goal.returns-clause-taken
returns-clause-taken g c =
    taken_on_ok c.exchange.result c.args.self.now.known c.exchange.new.self.known c.in_ok-batch.batch c.args.self.now.worker c.args.lemma
    c.exchange.ensures.traded.problem c.in_ok-batch.ensures c.exchange.ensures.landed

pub returns-clause-longer : goal.returns-clause-longer
returns-clause-longer g c =
    longer_on_ok c.exchange.result c.args.self.now.known.problem (seen c.args.self.now.known) (seen c.exchange.new.self.known) c.in_ok-batch.batch c.exchange.ensures.landed
