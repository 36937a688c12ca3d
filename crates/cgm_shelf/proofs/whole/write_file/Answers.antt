use Rattle.std.proofs.Common.{◌∙◌, arith}
use Rattle.cgm_shelf.proofs.Told.{Leaves-append, take_on}
use Rattle.cgm_shelf.proofs.whole.write_file.Goals as goal

pub loop-stored-preserved : goal.loop-stored-preserved
loop-stored-preserved g c =
    let added = Leaves-append (g.F.Shelf.state c.args.shelf.now).files (g.F.Shelf.state c.loop-stored.shelf).files (g.F.Shelf.state c.append.new.self).files c.args.name.now _ _ c.loop-stored.invariant.left c.in_ok-count.ensures.ok in
    record {
      inside = omega (arith, c.in_ok-count.ensures.within);
      left = rw (← take_on c.args.bytes.now c.split_at.result.1.now c.loop-stored.stored c.in_ok-count.count c.split_at.ensures.back) added;
      reads = c.in_ok-count.ensures.reads ∙ c.loop-stored.invariant.reads;
      later = omega (arith, c.in_ok-count.ensures.later);
    }
