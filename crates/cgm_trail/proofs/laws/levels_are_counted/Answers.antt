use Rattle.cgm_trail.proofs.LevelLists.{levels_are_counted}
use Rattle.cgm_trail.proofs.laws.levels_are_counted.Goals as goal

pub returns : goal.returns
returns c = levels_are_counted
