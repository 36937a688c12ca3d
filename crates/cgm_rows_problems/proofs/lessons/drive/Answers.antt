use Rattle.cgm_rows_problems.proofs.lessons.drive.Goals as goal

pub take-requires-clause-driven : goal.take-requires-clause-driven
take-requires-clause-driven c = c.loop-statement.invariant

pub loop-statement-preserved : goal.loop-statement-preserved
loop-statement-preserved c = c.in_ok-take.ensures
