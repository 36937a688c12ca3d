use Rattle.std.proofs.Common.{◌≡◌, ◌++◌, take, map}
use Rattle.cgm_encode.proofs.quantities.push_penalties.Given as goal

abbrev pub invariant-loop-w : goal.invariant-loop-w
invariant-loop-w l =
    l.shares.items ≡ l.initial.shares.items ++ map (λ w. (w.k, w.element)) (take l.w-index l.penalties)
