use Rattle.std.proofs.Common.{◌≡◌, true, take}
use Rattle.cgm_model.specs.Statement.{is_distinct}
use Rattle.cgm_model.proofs.admission.are_distinct.Given as goal

abbrev pub invariant-loop-place : goal.invariant-loop-place
invariant-loop-place l = is_distinct (take l.place l.numbers) ≡ true
