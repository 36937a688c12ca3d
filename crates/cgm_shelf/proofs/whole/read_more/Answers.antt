use Rattle.std.proofs.Common.{vec_len, rules}
use Rattle.cgm_shelf.specs.Shelf.{WhereTold, ReadsFrom}
use Rattle.cgm_shelf.proofs.Told.{longer_past}
use Rattle.cgm_shelf.proofs.whole.read_more.Goals as goal

pub returns-then-is_past-clause-too_long : goal.returns-then-is_past-clause-too_long
returns-then-is_past-clause-too_long g c =
    let told = (g.F.Shelf.state c.args.shelf.now).files in
    let length = vec_len c.args.bytes.now in
    let read : WhereTold told c.args.name.now (λ file. ReadsFrom file length c.read.new.buf c.in-Ok.count) = rw (← c.len.ensures) c.in-Ok.ensures.bytes in
    λ _. longer_past told c.args.name.now c.read.new.buf length c.in-Ok.count c.args.limit c.requires (search rules) read
