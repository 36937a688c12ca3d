use Rattle.std.proofs.Common.{◌≡◌, drop}
use Rattle.cgm_model.specs.Statement.{first_failing}
use Rattle.cgm_model.proofs.admission.first_failing.Given as goal

abbrev pub invariant-loop-passes : goal.invariant-loop-passes
invariant-loop-passes l = first_failing (drop l.passes-index l.answers) ≡ first_failing l.answers
