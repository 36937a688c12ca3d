use Rattle.std.proofs.Common.{refl, ◌∙◌}
use Rattle.std.specs.Prelude.{slice_get}
use Rattle.cgm_clauses.proofs.Steps.{problem_stays, room_stays}
use Rattle.cgm_search.proofs.Rounds.{row_conflict, row_made_next, rows_quiet_next}
use Rattle.cgm_search.proofs.settlement.sweep_rows.Goals as goal

pub returns-in_err-propagate_row-clause-made : goal.returns-in_err-propagate_row-clause-made
returns-in_err-propagate_row-clause-made c =
    row_made_next c.args.problem.now c.loop-n.n _ _ _ _ _ _ c.loop-n.invariant.made c.propagate_row.ensures.made

pub returns-in-Conflict-clause-answer : goal.returns-in-Conflict-clause-answer
returns-in-Conflict-clause-answer c =
    row_conflict c.args.problem.now c.loop-n.n c.loop-n.trail c.propagate_row.new.trail c.in-Conflict.hint (slice_get c.args.problem.now.rows c.loop-n.n) refl
    (rw c.in-Conflict.is at c.in_ok-propagate_row.ensures.answer)

pub returns-in-Spent-clause-made : goal.returns-in-Spent-clause-made
returns-in-Spent-clause-made c =
    row_made_next c.args.problem.now c.loop-n.n _ _ _ _ _ _ c.loop-n.invariant.made c.propagate_row.ensures.made

pub loop-n-preserved : goal.loop-n-preserved
loop-n-preserved c = record {
  made =
      row_made_next c.args.problem.now c.loop-n.n _ _ _ _ _ _ c.loop-n.invariant.made c.propagate_row.ensures.made;
  quiet =
      rows_quiet_next _ _ c.args.problem.now.rows c.loop-n.n _ _ _ _ _ _ c.loop-n.invariant.made c.propagate_row.ensures.made
      c.loop-n.invariant.quiet (rw c.in-Quiet.is at c.in_ok-propagate_row.ensures.answer);
  problem = problem_stays _ _ _ _ _ c.propagate_row.ensures.made ∙ c.loop-n.invariant.problem;
  room = room_stays _ _ _ _ _ _ c.propagate_row.ensures.made c.loop-n.invariant.room;
}
