use Rattle.std.proofs.Common.{arith}
use Rattle.cgm_shelf.proofs.Told.{Adds-more, take_on}
use Rattle.cgm_shelf.proofs.whole.write_whole.Goals as goal

pub loop-written-preserved : goal.loop-written-preserved
loop-written-preserved g c =
    let added = Adds-more (g.O.Sink.state c.args.sink.now) (g.O.Sink.state c.loop-written.sink) (g.O.Sink.state c.write.new.self) _ _ c.loop-written.invariant.added c.in_ok-count.ensures.ok in
    record {
      inside = omega (arith, c.in_ok-count.ensures.within);
      added = rw (← take_on c.args.bytes.now c.split_at.result.1.now c.loop-written.written c.in_ok-count.count c.split_at.ensures.back) added;
      later = omega (arith, c.in_ok-count.ensures.cause.later);
    }
