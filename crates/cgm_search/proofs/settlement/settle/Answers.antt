use Rattle.std.proofs.Common.{◌∙◌}
use Rattle.cgm_trail.proofs.Propagating.{one_after_another}
use Rattle.cgm_clauses.proofs.Steps.{problem_stays, room_stays}
use Rattle.cgm_search.proofs.settlement.settle.Goals as goal

pub returns-in_err-settle_once-clause-made : goal.returns-in_err-settle_once-clause-made
returns-in_err-settle_once-clause-made c =
    one_after_another _ _ _ _ _ _ _ c.loop-hint.invariant.made (rw c.loop-hint.invariant.store at c.settle_once.ensures.made)

pub returns-in-Conflict-clause-made : goal.returns-in-Conflict-clause-made
returns-in-Conflict-clause-made c =
    one_after_another _ _ _ _ _ _ _ c.loop-hint.invariant.made (rw c.loop-hint.invariant.store at c.settle_once.ensures.made)

pub returns-in-Spent-clause-made : goal.returns-in-Spent-clause-made
returns-in-Spent-clause-made c =
    one_after_another _ _ _ _ _ _ _ c.loop-hint.invariant.made (rw c.loop-hint.invariant.store at c.settle_once.ensures.made)

pub loop-hint-preserved : goal.loop-hint-preserved
loop-hint-preserved c = record {
  made = one_after_another _ _ _ _ _ _ _ c.loop-hint.invariant.made (rw c.loop-hint.invariant.store at c.settle_once.ensures.made);
  store = c.settle_once.ensures.store ∙ c.loop-hint.invariant.store;
  problem = problem_stays _ _ _ _ _ c.settle_once.ensures.made ∙ c.loop-hint.invariant.problem;
  room = room_stays _ _ _ _ _ _ c.settle_once.ensures.made c.loop-hint.invariant.room;
}

pub returns-then-left-before-clause-made : goal.returns-then-left-before-clause-made
returns-then-left-before-clause-made c =
    one_after_another _ _ _ _ _ _ _ c.loop-hint.invariant.made (rw c.loop-hint.invariant.store at c.settle_once.ensures.made)
