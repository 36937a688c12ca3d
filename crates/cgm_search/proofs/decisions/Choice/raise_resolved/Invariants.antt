use Rattle.std.proofs.Common.{◌≡◌, ◌≤◌, length}
use Rattle.cgm_search.proofs.decisions.Choice.raise_resolved.Given as goal

abbrev pub invariant-loop-place : goal.invariant-loop-place
invariant-loop-place l = record {
  order : l.self.order ≡ l.fn.self.order;
  count : length l.self.activity.weights ≡ length l.fn.self.activity.weights;
  variables : l.self.activity.variables ≡ l.fn.self.activity.variables;
  place : l.place ≤ length l.fn.trail.changes;
}

abbrev pub decreases-loop-place : goal.decreases-loop-place
decreases-loop-place l = l.place
