use Rattle.std.proofs.Common.{drop}
use Rattle.cgm_model.specs.Realization.{KeepsConflict}
use Rattle.cgm_model.proofs.Places.{Settles}
use Rattle.cgm_model.proofs.realization.first_broken_conflict.Given as goal

abbrev pub invariant-loop-number : goal.invariant-loop-number
invariant-loop-number l = Settles (KeepsConflict l.assignment) l.model.conflicts (drop l.number l.model.conflicts) l.number
