use Rattle.std.proofs.Common.{take}
use Rattle.cgm_split.proofs.Leading.{IsLeading}
use Rattle.cgm_split.proofs.activities.heaviest_of.Given as goal

abbrev pub invariant-loop-v : goal.invariant-loop-v
invariant-loop-v l = IsLeading l.bounds l.weights (take l.v-index l.variables) l.best
