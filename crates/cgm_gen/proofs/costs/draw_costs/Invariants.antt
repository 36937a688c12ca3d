use Rattle.std.proofs.Common.{◌≡◌, ◌≤◌, ◌-◌, ◌++◌, length}
use Rattle.cgm_gen.specs.Draws.{costs_from, costs_of}
use Rattle.cgm_gen.proofs.costs.draw_costs.Given as goal

abbrev pub invariant-loop-place : goal.invariant-loop-place
invariant-loop-place l = record {
  within : l.place ≤ l.goals;
  so_far : l.costs.items ++ costs_from l.place (l.goals - l.place) l.words ≡ costs_of l.goals;
  count : length l.costs.items ≡ l.place;
}

abbrev pub decreases-loop-place : goal.decreases-loop-place
decreases-loop-place l = l.goals - l.place
