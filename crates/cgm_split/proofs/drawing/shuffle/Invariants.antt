use Rattle.std.proofs.Common.{◌≡◌, ◌≤◌, length, IsPermutation}
use Rattle.cgm_split.specs.Drawing.{shuffled}
use Rattle.cgm_split.proofs.drawing.shuffle.Given as goal

abbrev pub invariant-loop-place : goal.invariant-loop-place
invariant-loop-place l = record {
  long : length l.variables ≡ length l.fn.variables;
  within : l.place ≤ length l.variables;
  order : shuffled (length l.fn.variables) l.fn.words l.fn.variables ≡ shuffled l.place l.words l.variables;
  permutation : IsPermutation l.fn.variables l.variables;
}

abbrev pub decreases-loop-place : goal.decreases-loop-place
decreases-loop-place l = l.place
