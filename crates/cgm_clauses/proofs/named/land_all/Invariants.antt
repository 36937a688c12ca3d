use Rattle.std.proofs.Common.{◌≡◌, ◌++◌, map, take, drop}
use Rattle.cgm_clauses.specs.StoreState.{landed_named}
use Rattle.cgm_clauses.proofs.named.land_all.Given as goal

abbrev pub invariant-loop-named : goal.invariant-loop-named
invariant-loop-named l = l.named-items ≡ map (landed_named l.first) (take l.named-index l.fn.clauses.items) ++ drop l.named-index l.fn.clauses.items
