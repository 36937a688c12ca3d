use Rattle.std.proofs.Common.{◌≡◌, take}
use Rattle.cgm_encode.specs.Quantities.{ones}
use Rattle.cgm_encode.proofs.quantities.ones.Given as goal

abbrev pub invariant-loop-x : goal.invariant-loop-x
invariant-loop-x l =
    l.shares.items ≡ ones (take l.x-index l.variables)
