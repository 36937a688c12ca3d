-- The law is a lemma.
use Rattle.cgm_atom.proofs.Solving.{bests_are_solutions}
use Rattle.cgm_atom.proofs.laws.bests_are_solutions.Goals as goal

pub returns : goal.returns
returns c = bests_are_solutions
