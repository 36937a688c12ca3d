use Rattle.std.proofs.Common.{◌∙◌}
use Rattle.cgm_trail.proofs.Propagating.{one_after_another}
use Rattle.cgm_clauses.proofs.Steps.{problem_stays, room_stays}
use Rattle.cgm_clauses.proofs.sweeping.propagate_by.Goals as goal

pub returns-in_err-sweep_both-clause-made : goal.returns-in_err-sweep_both-clause-made
returns-in_err-sweep_both-clause-made c =
    one_after_another _ _ _ _ _ _ _ c.loop-h.invariant.made c.sweep_both.ensures.made

pub returns-in-Conflict-clause-made : goal.returns-in-Conflict-clause-made
returns-in-Conflict-clause-made c =
    one_after_another _ _ _ _ _ _ _ c.loop-h.invariant.made c.sweep_both.ensures.made

pub returns-in-Spent-clause-made : goal.returns-in-Spent-clause-made
returns-in-Spent-clause-made c =
    one_after_another _ _ _ _ _ _ _ c.loop-h.invariant.made c.sweep_both.ensures.made

pub loop-h-preserved : goal.loop-h-preserved
loop-h-preserved c = record {
  made = one_after_another _ _ _ _ _ _ _ c.loop-h.invariant.made c.sweep_both.ensures.made;
  problem = problem_stays _ _ _ _ _ c.sweep_both.ensures.made ∙ c.loop-h.invariant.problem;
  room = room_stays _ _ _ _ _ _ c.sweep_both.ensures.made c.loop-h.invariant.room;
}

pub returns-then-left-before-clause-made : goal.returns-then-left-before-clause-made
returns-then-left-before-clause-made c =
    one_after_another _ _ _ _ _ _ _ c.loop-h.invariant.made c.sweep_both.ensures.made
