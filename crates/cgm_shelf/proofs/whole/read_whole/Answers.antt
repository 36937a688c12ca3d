use Rattle.std.proofs.Common.{◌∙◌, arith}
use Rattle.cgm_shelf.specs.Shelf.{IsMissing, WhereTold, ReadsNext}
use Rattle.cgm_shelf.proofs.Told.{front_more}
use Rattle.cgm_shelf.proofs.whole.read_whole.Goals as goal

pub loop-bytes-preserved : goal.loop-bytes-preserved
loop-bytes-preserved g c =
    let told = (g.F.Shelf.state c.args.shelf.now).files in
    let name = c.args.name.now in
    let next : WhereTold told name (λ file. ReadsNext file c.loop-bytes.bytes.items c.read_more.new.bytes.items c.in_ok-count.count) = rw (← c.loop-bytes.invariant.files) c.in_ok-count.ensures.ok in
    record {
      files = c.in_ok-count.ensures.only.files ∙ c.loop-bytes.invariant.files;
      writes = c.in_ok-count.ensures.only.writes ∙ c.loop-bytes.invariant.writes;
      later = omega (arith, c.in_ok-count.ensures.only.later);
      missing = λ missing. let still : IsMissing (g.F.Shelf.state c.loop-bytes.shelf).files name = rw c.loop-bytes.invariant.files missing in cc (c.in_ok-count.ensures.missing still).0;
      front = front_more told name c.loop-bytes.bytes.items c.read_more.new.bytes.items c.in_ok-count.count c.loop-bytes.invariant.front next;
      fits = c.in_ok-count.ensures.fits;
    }
