use Rattle.std.proofs.Common.{drop}
use Rattle.cgm_model.specs.Realization.{KeepsAssertion}
use Rattle.cgm_model.proofs.Places.{Settles}
use Rattle.cgm_model.proofs.realization.first_broken_assertion.Given as goal

abbrev pub invariant-loop-number : goal.invariant-loop-number
invariant-loop-number l = Settles (KeepsAssertion l.assignment) l.model.asserts (drop l.number l.model.asserts) l.number
