use Rattle.cgm_clauses.specs.StoreState.{all_clauses}
use Rattle.cgm_trail.specs.TrailState.{box_of}
use Rattle.cgm_search.proofs.Rounds.{made_by_round, made_by_store, store_conflict}
use Rattle.cgm_search.proofs.settlement.settle_once.Goals as goal

pub returns-in_err-propagate-clause-made : goal.returns-in_err-propagate-clause-made
returns-in_err-propagate-clause-made c =
    made_by_store c.args.problem.now (all_clauses c.args.store.now) _ _ _ _ c.propagate.ensures.made

pub returns-in-Quiet-clause-made : goal.returns-in-Quiet-clause-made
returns-in-Quiet-clause-made c =
    made_by_round c.args.problem.now (all_clauses c.args.store.now) _ _ _ _ _ _ c.propagate.ensures.made c.sweep_rows.ensures.made

pub returns-in-Conflict-clause-made : goal.returns-in-Conflict-clause-made
returns-in-Conflict-clause-made c =
    made_by_store c.args.problem.now (all_clauses c.args.store.now) _ _ _ _ c.propagate.ensures.made

pub returns-in-Conflict-clause-answer : goal.returns-in-Conflict-clause-answer
returns-in-Conflict-clause-answer c =
    store_conflict c.args.problem.now (all_clauses c.args.store.now) (box_of c.propagate.new.trail) c.in-Conflict.hint (rw c.in-Conflict.is at c.in_ok-propagate.ensures.answer)

pub returns-in-Spent-clause-made : goal.returns-in-Spent-clause-made
returns-in-Spent-clause-made c =
    made_by_store c.args.problem.now (all_clauses c.args.store.now) _ _ _ _ c.propagate.ensures.made
