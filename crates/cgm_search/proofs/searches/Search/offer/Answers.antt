use Rattle.std.proofs.Common.{List, ap, subst, sym, ◌∙◌}
use Rattle.std.specs.Prelude.{ℤ}
use Rattle.cgm_log.specs.declared.batches.Batch.{Batch}
use Rattle.cgm_log.specs.Landing.{IsProperBatch}
use Rattle.cgm_search.specs.Knowing.{seen}
use Rattle.cgm_search.proofs.FixedBoxes.{settled_is_solution}
use Rattle.cgm_search.proofs.Offers.{candidate_batch, offered_on_ok, proper_candidate, trail_box}
use Rattle.cgm_search.proofs.searches.Search.offer.Goals as goal
use Rattle.cgm_trail.specs.TrailState.{box_of}

pub exchange-requires-clause-proper : goal.exchange-requires-clause-proper
exchange-requires-clause-proper g c = λ _ _.
    let box = trail_box c.args.self.now c.requires.ready c.recall_trail.ensures in
    subst (λ (b : Batch). IsProperBatch c.args.self.now.known.problem (seen c.args.self.now.known) b)
    (sym (c.candidate_batch-batch.ensures ∙ ap (λ (values : List ℤ). candidate_batch c.args.self.now.worker values) (c.in_ok-values.ensures ∙ ap (λ b. b.lower) c.state.ensures.state)))
    (proper_candidate c.args.self.now.known.problem (seen c.args.self.now.known) c.args.self.now.worker (box_of c.args.self.now.trail).lower c.requires.ready.worker
    (settled_is_solution c.args.self.now.known.problem (box_of c.args.self.now.trail) box c.requires.point c.requires.rest))

pub returns-clause-offered : goal.returns-clause-offered
returns-clause-offered g c =
    offered_on_ok c.exchange.result c.args.self.now c.exchange.new.self c.candidate_batch-batch.result c.requires.ready c.exchange.ensures.traded
    (trail_box c.args.self.now c.requires.ready c.recall_trail.ensures) c.requires.point
    (c.candidate_batch-batch.ensures ∙ ap (λ (values : List ℤ). candidate_batch c.args.self.now.worker values) (c.in_ok-values.ensures ∙ ap (λ b. b.lower) c.state.ensures.state))
    c.exchange.ensures.known c.exchange.ensures.landed
