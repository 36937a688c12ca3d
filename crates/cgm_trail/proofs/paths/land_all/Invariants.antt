use Rattle.std.proofs.Common.{◌≡◌, ◌++◌, map, take, drop}
use Rattle.cgm_trail.specs.Landing.{landed_change}
use Rattle.cgm_trail.proofs.paths.land_all.Given as goal

abbrev pub invariant-loop-change : goal.invariant-loop-change
invariant-loop-change l = l.change-items ≡ map (landed_change l.first) (take l.change-index l.fn.changes.items) ++ drop l.change-index l.fn.changes.items
