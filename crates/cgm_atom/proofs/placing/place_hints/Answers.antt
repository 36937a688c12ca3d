use Rattle.std.proofs.Common.{◌≡◌, ◌<◌, get_or, length, rules, sym}
use Rattle.std.proofs.lemmas.List.Edits.{map_over_more}
use Rattle.std.proofs.lemmas.Option.{get_or_from_slice_get, slice_get-get_or}
use Rattle.cgm_atom.specs.declared.entries.Hint.{Hint}
use Rattle.cgm_atom.specs.declared.entries.Hint.TheVariants as hint
use Rattle.cgm_atom.specs.Placing.{placed}
use Rattle.cgm_atom.proofs.placing.place_hints.Goals as goal

pub loop-hint-preserved : goal.loop-hint-preserved
loop-hint-preserved c =
    let ys = c.loop-hint.hint-items in
    let i = c.loop-hint.hint-index in
    let this : Hint = get_or ys i (hint.Clause 0) in
    let new : c.placed.result ≡ placed c.args.before this = c.placed.ensures in
    let within : i < length c.args.hints = search rules in
    let within_now : i < length ys = search rules in
    let same : this ≡ get_or ys i this = sym (get_or_from_slice_get ys i this this (slice_get-get_or ys i (hint.Clause 0) within_now)) in
    rw new (map_over_more (placed c.args.before) c.args.hints ys i this within c.loop-hint.invariant same)
