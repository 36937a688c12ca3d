use Rattle.cgm_trail.proofs.LevelLists.{levels_are_changes}
use Rattle.cgm_trail.proofs.laws.levels_are_changes.Goals as goal

pub returns : goal.returns
returns c = levels_are_changes
