use Rattle.std.proofs.Common.{length, ap, arith}
use Rattle.cgm_log.proofs.Adding.{counted}
use Rattle.cgm_log.proofs.logs.make_room.Goals as goal

pub append-requires-2 : goal.append-requires-2
append-requires-2 c =
    let count = counted c.args.index.now c.args.entries.now.items c.requires.own in
    omega (arith, count, ap length c.as_slice.ensures.value, c.as_slice.ensures.len, c.try_reserve.new.self.small, c.try_reserve.new.self.ok.0, c.try_reserve.new.self.ok.1, c.in_ok-try_reserve.ensures.ok)
