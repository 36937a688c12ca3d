use Rattle.cgm_atom.proofs.Leaving.{none_left}
use Rattle.cgm_clauses.proofs.standing.standing_of_atoms.Goals as goal

pub returns-in-None : goal.returns-in-None
returns-in-None c = none_left c.args.bounds.now c.args.atoms.now c.in-None.ensures
