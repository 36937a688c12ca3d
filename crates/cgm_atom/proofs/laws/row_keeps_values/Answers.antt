-- The law is a lemma.
use Rattle.cgm_atom.proofs.Keeping.{within_left_by_row}
use Rattle.cgm_atom.proofs.laws.row_keeps_values.Goals as goal

pub returns : goal.returns
returns c = within_left_by_row
