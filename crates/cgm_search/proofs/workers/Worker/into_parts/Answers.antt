use Rattle.cgm_search.proofs.WholeWorkers.{spent_trail, trail_here}
use Rattle.cgm_search.proofs.workers.Worker.into_parts.Goals as goal

pub returns-clause-spent : goal.returns-clause-spent
returns-clause-spent g c = λ spent.
    spent_trail c.args.self c.recall_worker.ensures (trail_here _ _ c.self.view_is c.recall_trail.ensures) spent
