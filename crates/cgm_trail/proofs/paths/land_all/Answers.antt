use Rattle.std.proofs.Common.{◌<◌, length, arith}
use Rattle.cgm_trail.proofs.Renaming.{land_more}
use Rattle.cgm_trail.proofs.paths.land_all.Goals as goal

pub loop-change-preserved : goal.loop-change-preserved
loop-change-preserved c =
    let short : c.loop-change.change-index < length c.args.changes.now.items = rw c.deref_mut-change-items.ensures.value at c.loop-change-test.true in
    land_more c.args.first _ _ _ _ _ short (omega arith) c.loop-change.invariant c.change_landed.ensures
