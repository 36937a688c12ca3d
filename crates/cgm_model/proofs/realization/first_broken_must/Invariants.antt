use Rattle.std.proofs.Common.{drop}
use Rattle.cgm_model.specs.Realization.{KeepsMust}
use Rattle.cgm_model.proofs.Places.{Settles}
use Rattle.cgm_model.proofs.realization.first_broken_must.Given as goal

abbrev pub invariant-loop-number : goal.invariant-loop-number
invariant-loop-number l = Settles (KeepsMust l.assignment) l.model.elements (drop l.number l.model.elements) l.number
