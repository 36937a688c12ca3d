use Rattle.std.proofs.Common.{◌≡◌, ◌+◌, ◌↔◌, drop, length}
use Rattle.cgm_atom.specs.Acceptance.{IsAccepted, IsAcceptedAfter}
use Rattle.cgm_atom.specs.LogState.{state_of}
use Rattle.cgm_step.specs.Indexing.{IsLogIndexOf}
use Rattle.cgm_core.proofs.batches.accepts_all.Given as goal

abbrev pub invariant-loop-entry : goal.invariant-loop-entry
invariant-loop-entry l = record {
  count : length l.all.items ≡ length l.seen + l.entry-index;
  accepted : IsAccepted l.problem l.all.items;
  own : IsLogIndexOf l.index l.all.items;
  own_box : l.work ≡ l.problem.bounds;
  rest : IsAcceptedAfter l.problem (state_of l.seen) l.more ↔ IsAcceptedAfter l.problem (state_of l.all.items) (drop l.entry-index l.more);
}
