-- The law is a lemma.
use Rattle.cgm_atom.proofs.Keeping.{within_made_true}
use Rattle.cgm_atom.proofs.laws.made_true_keeps_values.Goals as goal

pub returns : goal.returns
returns c = within_made_true
