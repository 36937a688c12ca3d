-- The law is a lemma.
use Rattle.cgm_atom.proofs.Keeping.{within_left_by_clause}
use Rattle.cgm_atom.proofs.laws.clause_keeps_values.Goals as goal

pub returns : goal.returns
returns c = within_left_by_clause
