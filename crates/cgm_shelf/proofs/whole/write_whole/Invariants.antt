use Rattle.std.proofs.Common.{◌-◌, ◌≤◌, length, take}
use Rattle.cgm_shelf.specs.Sink.{Adds}
use Rattle.cgm_shelf.proofs.whole.write_whole.Given as goal

abbrev pub invariant-loop-written : goal.invariant-loop-written
invariant-loop-written g l = record {
  inside : l.written ≤ length l.bytes;
  added : Adds (g.O.Sink.state l.fn.sink) (g.O.Sink.state l.sink) (take l.written l.bytes);
  later : (g.O.Sink.state l.fn.sink).faults ≤ (g.O.Sink.state l.sink).faults;
}

abbrev pub decreases-loop-written : goal.decreases-loop-written
decreases-loop-written g l = length l.bytes - l.written
