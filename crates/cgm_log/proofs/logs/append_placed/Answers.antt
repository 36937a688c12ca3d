use Rattle.std.proofs.Common.{◌++◌}
use Rattle.cgm_log.proofs.Placed.{indexed_landing}
use Rattle.cgm_log.proofs.logs.append_placed.Goals as goal

pub returns-clause-own : goal.returns-clause-own
returns-clause-own c =
    indexed_landing c.make_room.new.index c.args.entries.now.items c.make_room.new.entries.items c.append.new.self.items (c.args.lemmas.items ++ c.args.kept.items) c.make_room.new.landing.items c.place_all-landing.result.items c.len-before.result
    c.in_default.ensures.indexed c.make_room.ensures.entries c.in_default.ensures.landing c.place_all-landing.ensures c.in-Ok.ensures.items
