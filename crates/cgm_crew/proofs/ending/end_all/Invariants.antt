use Rattle.std.proofs.Common.{◌≡◌, length}
use Rattle.std.specs.List.{All}
use Rattle.cgm_crew.specs.Ends.{IsJoining}
use Rattle.cgm_crew.specs.Workers.{IsDone}
use Rattle.cgm_crew.proofs.ending.end_all.Given as goal

abbrev pub invariant-loop-worker : goal.invariant-loop-worker
invariant-loop-worker g l = record {
  joining : IsJoining l.turn l.crew l.ended;
  out : l.ended.first.out ≡ length l.worker-iterator.rest.items;
  done : All (IsDone l.turn l.crew) l.worker-iterator.rest.items;
}
