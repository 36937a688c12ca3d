use Rattle.std.proofs.Common.{drop}
use Rattle.cgm_model.specs.Realization.{KeepsRule}
use Rattle.cgm_model.proofs.Places.{Settles}
use Rattle.cgm_model.proofs.realization.first_broken_rule.Given as goal

abbrev pub invariant-loop-number : goal.invariant-loop-number
invariant-loop-number l = Settles (KeepsRule l.assignment l.sums) l.model.rules (drop l.number l.model.rules) l.number
