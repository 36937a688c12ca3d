use Rattle.std.proofs.Common.{rules}
use Rattle.cgm_turn.proofs.Joining.{joins_in}
use Rattle.cgm_turn.proofs.moves.join_seat.Goals as goal

pub join_seat-requires : goal.join_seat-requires
join_seat-requires c =
    (search rules, search rules, search rules, search rules, joins_in c.args.seat.now.id c.args.seat.now.me.0 c.args.other.id c.args.other.me.0 c.requires.first.0 c.requires.first.1 c.requires.first.2 c.requires.other.1 c.requires.other.2)
