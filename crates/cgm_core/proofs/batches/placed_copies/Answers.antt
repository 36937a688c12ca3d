use Rattle.std.proofs.Common.{List, subst, sym}
use Rattle.std.specs.List.{All}
use Rattle.cgm_atom.specs.declared.entries.Entry.{Entry}
use Rattle.cgm_atom.specs.Placing.{HintsCanBePlaced}
use Rattle.cgm_log.proofs.Placed.{batch_placed}
use Rattle.cgm_core.proofs.batches.placed_copies.Goals as goal

pub place_all-requires : goal.place_all-requires
place_all-requires c =
    subst (λ (xs : List Entry). All (HintsCanBePlaced c.args.before) xs) (sym c.in_ok-copied.ensures)
    (batch_placed c.args.before c.args.before c.args.worker c.args.lemmas.now c.requires.count c.requires.lemmas)
