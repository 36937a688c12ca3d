use Rattle.std.proofs.Common.{[], arith}
use Rattle.std.proofs.lemmas.List.{length-take-le, set_at, take_more}
use Rattle.cgm_trail.proofs.paths.replace_rest.Goals as goal

pub returns : goal.returns
returns c =
    rw (c.truncate.ensures.items, take_more c.args.changes.now.items c.args.from c.args.change c.requires)
    (set_at _ _ [] _ _ (length-take-le c.args.from c.args.changes.now.items (omega arith)))
