use Rattle.cgm_rows_problems.proofs.trails.is_so.Goals as goal

pub is_chosen-requires-clause-order : goal.is_chosen-requires-clause-order
is_chosen-requires-clause-order c = c.requires.order
