use Rattle.cgm_trail.proofs.Renaming.{landed_is_placed}
use Rattle.cgm_trail.proofs.laws.landed_hints_are_placed.Goals as goal

pub returns : goal.returns
returns c = landed_is_placed
