use Rattle.std.proofs.Common.{◌<◌, length, rules}
use Rattle.cgm_clauses.proofs.Naming.{landed_more}
use Rattle.cgm_clauses.proofs.named.land_all.Goals as goal

pub loop-named-preserved : goal.loop-named-preserved
loop-named-preserved c =
    let short : c.loop-named.named-index < length c.args.clauses.now.items = rw c.deref_mut-named-items.ensures.value at c.loop-named-test.true in
    let there : c.loop-named.named-index < length c.loop-named.named-items = search rules in
    landed_more c.args.first c.args.clauses.now.items c.loop-named.named-items c.loop-named.named-index c.named-item.result c.landed-named.result
    short there c.loop-named.invariant c.landed-named.ensures
