use Rattle.cgm_rows_problems.specs.Driving.{IsDriven}
use Rattle.cgm_rows_problems.proofs.lessons.drive.Given as goal

abbrev pub invariant-loop-statement : goal.invariant-loop-statement
invariant-loop-statement l = IsDriven l.problem l.log l.trail
