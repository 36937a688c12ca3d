use Rattle.std.proofs.Common.{drop}
use Rattle.cgm_model.specs.Realization.{KeepsRefinement}
use Rattle.cgm_model.proofs.Places.{Settles}
use Rattle.cgm_model.proofs.realization.first_broken_refinement.Given as goal

abbrev pub invariant-loop-number : goal.invariant-loop-number
invariant-loop-number l = Settles (KeepsRefinement l.assignment) l.model.refinements (drop l.number l.model.refinements) l.number
