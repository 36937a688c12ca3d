use Rattle.std.proofs.Common.{List, ◌∷◌, length, ap, subst, arith}
use Rattle.std.specs.List.{All}
use Rattle.std.proofs.lemmas.List.Elements.{All-from_recursion, recursion_from_All}
use Rattle.cgm_search.specs.Working.{WorkerState}
use Rattle.cgm_crew.specs.Workers.{IsDone}
use Rattle.cgm_turn.specs.Passes.{PassState}
use Rattle.cgm_crew.proofs.ending.end_all.Goals as goal

pub add-requires-clause-worker : goal.add-requires-clause-worker
add-requires-clause-worker g c =
    let is_done = IsDone c.args.turn.now c.args.crew in
    (recursion_from_All is_done (c.in-Some.worker ∷ c.next.new.self.rest.items)
    (subst (λ (ws : List (WorkerState PassState)). All is_done ws) c.in-Some.ensures.steps.0 c.loop-worker.invariant.done)).0

pub loop-worker-preserved : goal.loop-worker-preserved
loop-worker-preserved g c =
    let is_done = IsDone c.args.turn.now c.args.crew in
    record {
      joining = c.add.ensures.joining;
      out = omega (arith, c.add.ensures.out, c.loop-worker.invariant.out, ap (λ (ws : List (WorkerState PassState)). length ws) c.in-Some.ensures.steps.0);
      done =
          All-from_recursion is_done c.next.new.self.rest.items
          (recursion_from_All is_done (c.in-Some.worker ∷ c.next.new.self.rest.items)
          (subst (λ (ws : List (WorkerState PassState)). All is_done ws) c.in-Some.ensures.steps.0 c.loop-worker.invariant.done)).1;
    }
