use Rattle.cgm_learn.specs.Walking.{AreNegations}
use Rattle.cgm_learn.proofs.negations.negations.Given as goal

abbrev pub invariant-loop-v : goal.invariant-loop-v
invariant-loop-v l = AreNegations l.problem.bounds l.rest l.v l.atoms.items
