use Rattle.std.proofs.Common.{drop}
use Rattle.cgm_step.proofs.Testing.{AreAssumedSoFar}
use Rattle.cgm_step.proofs.refuting.assume_negations.Given as goal

abbrev pub invariant-loop-a : goal.invariant-loop-a
invariant-loop-a l = AreAssumedSoFar l.fn.bounds l.atoms (drop l.a-index l.atoms) l.bounds
