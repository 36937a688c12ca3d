use Rattle.cgm_atom.proofs.PlacedHints.{placed_are_placed}
use Rattle.cgm_atom.proofs.laws.placed_hints_have_places.Goals as goal

pub returns : goal.returns
returns c = placed_are_placed
