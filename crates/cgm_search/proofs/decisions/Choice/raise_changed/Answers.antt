use Rattle.std.proofs.Common.{arith}
use Rattle.cgm_learn.proofs.Changes.{change_known}
use Rattle.cgm_search.proofs.decisions.Choice.raise_changed.Goals as goal

pub raise-requires : goal.raise-requires
raise-requires c =
    let known = change_known c.args.trail.now c.args.place c.change-change.result.now c.change-change.ensures.valid c.change-change.ensures.found in
    omega (arith, known, c.requires.count)
