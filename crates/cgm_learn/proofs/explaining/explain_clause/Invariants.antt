use Rattle.cgm_atom.specs.ClauseAtoms.{atoms_of}
use Rattle.cgm_learn.proofs.Needs.{IsClauseSoFar}
use Rattle.cgm_learn.proofs.explaining.explain_clause.Given as goal

abbrev pub invariant-loop-i : goal.invariant-loop-i
invariant-loop-i l = IsClauseSoFar l.work l.fn.need l.need (atoms_of l.atoms) l.i
