use Rattle.cgm_search.proofs.WholeWorkers.{final_exactly, moves_when_spent, never_spent, trail_here}
use Rattle.cgm_search.proofs.workers.Worker.run.Goals as goal

pub returns-clause-never_spent : goal.returns-clause-never_spent
returns-clause-never_spent g c =
    never_spent c.run_once-stopped.new.self c.run_once-stopped.result c.args.self.now.plan c.args.self.now.seat.problem c.recall_worker.ensures c.run_once-stopped.ensures.ended
    (trail_here _ _ c.self.view_is c.recall_trail.ensures) c.run_once-stopped.ensures.plan c.run_once-stopped.ensures.seat.problem

pub returns-clause-exact : goal.returns-clause-exact
returns-clause-exact g c =
    final_exactly c.run_once-stopped.new.self c.run_once-stopped.result c.recall_worker.ensures c.run_once-stopped.ensures.ended

pub returns-clause-spent : goal.returns-clause-spent
returns-clause-spent g c =
    moves_when_spent c.run_once-stopped.new.self c.run_once-stopped.result c.args.self.now.plan c.recall_worker.ensures c.run_once-stopped.ensures.ended c.run_once-stopped.ensures.plan
