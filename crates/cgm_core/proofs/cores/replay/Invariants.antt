use Rattle.std.proofs.Common.{◌≡◌, ℕ, ◌+◌}
use Rattle.cgm_log.specs.Events.{AreAllowedEvents, IsFirstIllegal, after_events, begin}
use Rattle.cgm_core.proofs.cores.replay.Given as goal

abbrev pub invariant-loop-i : goal.invariant-loop-i
invariant-loop-i l = record {
  allowed : AreAllowedEvents l.core l.i-iterator.iter.rest.items → AreAllowedEvents (begin l.fn.problem) l.fn.events.items;
  same : after_events l.core l.i-iterator.iter.rest.items ≡ after_events (begin l.fn.problem) l.fn.events.items;
  first : (k : ℕ) → IsFirstIllegal l.core l.i-iterator.iter.rest.items k → IsFirstIllegal (begin l.fn.problem) l.fn.events.items (l.i-iterator.count + k);
}
