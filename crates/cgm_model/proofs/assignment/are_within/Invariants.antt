use Rattle.std.proofs.Common.{drop}
use Rattle.cgm_model.specs.Assignment.{IsWithinBounds}
use Rattle.cgm_model.proofs.Places.{Settles}
use Rattle.cgm_model.proofs.assignment.are_within.Given as goal

abbrev pub invariant-loop-place : goal.invariant-loop-place
invariant-loop-place l = Settles (IsWithinBounds l.values) l.vars (drop l.place l.vars) l.place
