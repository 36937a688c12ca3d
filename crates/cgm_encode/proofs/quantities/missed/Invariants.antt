use Rattle.std.proofs.Common.{◌≡◌, take, map}
use Rattle.std.specs.Prelude.{negsuc}
use Rattle.cgm_encode.proofs.quantities.missed.Given as goal

abbrev pub invariant-loop-x : goal.invariant-loop-x
invariant-loop-x l =
    l.shares.items ≡ map (λ e. (negsuc 0, e)) (take l.x-index l.variables)
