use Rattle.cgm_atom.proofs.PlacedHints.{placed_come_back}
use Rattle.cgm_atom.proofs.laws.placed_hints_come_back.Goals as goal

pub returns : goal.returns
returns c = placed_come_back
