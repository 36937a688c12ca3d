use Rattle.cgm_clauses.proofs.Steps.{made_by_both, made_by_first, swept_by_both}
use Rattle.cgm_clauses.proofs.sweeping.sweep_both.Goals as goal

pub returns-in_err-sweep-clause-made : goal.returns-in_err-sweep-clause-made
returns-in_err-sweep-clause-made c = made_by_first c.args.clauses.now c.args.added.now _ _ _ _ c.sweep.ensures.made

pub returns-in-Quiet-clause-made : goal.returns-in-Quiet-clause-made
returns-in-Quiet-clause-made c =
    made_by_both c.args.clauses.now c.args.added.now _ _ _ _ _ _ c.sweep.ensures.made c.sweep-in-Quiet.ensures.made

pub returns-in-Quiet-clause-answer : goal.returns-in-Quiet-clause-answer
returns-in-Quiet-clause-answer c =
    swept_by_both c.args.clauses.now c.args.added.now _ _ _ _ _ _ c.sweep-in-Quiet.result c.sweep.ensures.made c.sweep-in-Quiet.ensures.made
    (rw c.in-Quiet.is at c.in_ok-sweep.ensures.answer) c.sweep-in-Quiet.ensures.answer

pub returns-in-Conflict-clause-made : goal.returns-in-Conflict-clause-made
returns-in-Conflict-clause-made c = made_by_first c.args.clauses.now c.args.added.now _ _ _ _ c.sweep.ensures.made

pub returns-in-Spent-clause-made : goal.returns-in-Spent-clause-made
returns-in-Spent-clause-made c = made_by_first c.args.clauses.now c.args.added.now _ _ _ _ c.sweep.ensures.made
