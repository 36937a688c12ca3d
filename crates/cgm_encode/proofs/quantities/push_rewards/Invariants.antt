use Rattle.std.proofs.Common.{◌≡◌, ◌++◌, take, map}
use Rattle.std.specs.Prelude.{neg_ℤ}
use Rattle.cgm_encode.proofs.quantities.push_rewards.Given as goal

abbrev pub invariant-loop-w : goal.invariant-loop-w
invariant-loop-w l =
    l.shares.items ≡ l.initial.shares.items ++ map (λ w. (neg_ℤ w.k, w.element)) (take l.w-index l.rewards)
