use Rattle.std.proofs.Common.{◌≡◌, drop, find}
use Rattle.cgm_split.specs.Halving.{is_unfixed}
use Rattle.cgm_split.proofs.halves.first_unfixed.Given as goal

abbrev pub invariant-loop-v : goal.invariant-loop-v
invariant-loop-v l = find (is_unfixed l.bounds) l.variables ≡ find (is_unfixed l.bounds) (drop l.v-index l.variables)
