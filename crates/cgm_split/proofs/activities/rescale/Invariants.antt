use Rattle.std.proofs.Common.{◌≡◌, ◌++◌, ◌/◌, ◌^◌, map, take, drop}
use Rattle.cgm_split.proofs.activities.rescale.Given as goal

abbrev pub invariant-loop-weight : goal.invariant-loop-weight
invariant-loop-weight l =
    l.weights ≡ map (λ weight. weight / 2 ^ 32) (take l.weight-index l.fn.weights) ++ drop l.weight-index l.fn.weights
