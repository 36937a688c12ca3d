use Rattle.std.proofs.Common.{◌↔◌, drop}
use Rattle.cgm_log.specs.Landing.{ClosesLast}
use Rattle.cgm_core.proofs.batches.closes_last.Given as goal

abbrev pub invariant-loop-i : goal.invariant-loop-i
invariant-loop-i l = ClosesLast l.lemmas l.candidate ↔ ClosesLast (drop l.i l.lemmas) l.candidate
