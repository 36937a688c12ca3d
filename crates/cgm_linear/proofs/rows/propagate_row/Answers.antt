use Rattle.cgm_linear.proofs.RowSteps.{named_by_number, row_within}
use Rattle.cgm_linear.proofs.rows.propagate_row.Goals as goal

pub sweep-requires-clause-row : goal.sweep-requires-clause-row
sweep-requires-clause-row c =
    row_within c.args.problem.now c.args.trail.now c.row.result.now c.requires.problem c.recall_trail.ensures c.row.ensures.known

pub returns-clause-made : goal.returns-clause-made
returns-clause-made c =
    named_by_number c.args.problem.now c.args.n c.row.result.now c.args.trail.now c.sweep.new.trail c.args.left.now c.sweep.new.left c.row.ensures.found c.sweep.ensures.made
