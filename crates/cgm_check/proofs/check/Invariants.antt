-- The entries so far are accepted, the index is theirs, and the box is the problem's own.
use Rattle.std.proofs.Common.{◌≡◌, take}
use Rattle.cgm_atom.specs.Acceptance.{IsAccepted}
use Rattle.cgm_step.specs.Indexing.{IsLogIndexOf}
use Rattle.cgm_check.proofs.check.Given as goal

abbrev pub invariant-loop-i : goal.invariant-loop-i
invariant-loop-i l = record {
  accepted : IsAccepted l.problem (take l.i l.entries);
  own : IsLogIndexOf l.index (take l.i l.entries);
  own_box : l.work ≡ l.problem.bounds;
}
