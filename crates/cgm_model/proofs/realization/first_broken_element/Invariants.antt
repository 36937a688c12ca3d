use Rattle.std.proofs.Common.{drop}
use Rattle.cgm_model.specs.Model.{lists_of}
use Rattle.cgm_model.specs.Realization.{KeepsElement}
use Rattle.cgm_model.proofs.Places.{Settles}
use Rattle.cgm_model.proofs.realization.first_broken_element.Given as goal

abbrev pub invariant-loop-number : goal.invariant-loop-number
invariant-loop-number l = Settles (KeepsElement (lists_of l.model) l.assignment) l.model.elements (drop l.number l.model.elements) l.number
