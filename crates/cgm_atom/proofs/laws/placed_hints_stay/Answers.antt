use Rattle.cgm_atom.proofs.PlacedHints.{placed_stay}
use Rattle.cgm_atom.proofs.laws.placed_hints_stay.Goals as goal

pub returns : goal.returns
returns c = placed_stay
