use Rattle.std.proofs.Common.{rules}
use Rattle.cgm_turn.proofs.Splitting.{splits_off}
use Rattle.cgm_turn.proofs.moves.split_seat.Goals as goal

pub split_seat-requires : goal.split_seat-requires
split_seat-requires c =
    (search rules, search rules, splits_off c.args.seat.now.id c.args.seat.now.me.0 c.requires.first.0 c.requires.first.1 c.requires.first.2)
