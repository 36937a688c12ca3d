-- The law is a lemma.
use Rattle.cgm_atom.proofs.Keeping.{within_assumed}
use Rattle.cgm_atom.proofs.laws.assumed_atoms_keep_values.Goals as goal

pub returns : goal.returns
returns c = within_assumed
