use Rattle.std.proofs.Common.{add-one}
use Rattle.cgm_trail.proofs.LevelLists.{cuts_keep_levels}
use Rattle.cgm_trail.proofs.laws.cuts_keep_levels.Goals as goal

pub returns : goal.returns
returns c = λ level changes. rw add-one (cuts_keep_levels level changes)
