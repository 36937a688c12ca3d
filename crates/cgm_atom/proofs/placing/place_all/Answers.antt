use Rattle.std.proofs.Common.{◌≡◌, ◌<◌, get_or, length, rules, sym}
use Rattle.std.proofs.lemmas.List.Edits.{map_over_more}
use Rattle.std.proofs.lemmas.Option.{get_or_from_slice_get, slice_get-get_or}
use Rattle.cgm_atom.specs.declared.entries.Entry.{Entry}
use Rattle.cgm_atom.specs.Placing.{placed_entry}
use Rattle.cgm_atom.proofs.placing.place_all.Goals as goal

pub loop-entry-preserved : goal.loop-entry-preserved
loop-entry-preserved c =
    let ys = c.loop-entry.entry-items in
    let i = c.loop-entry.entry-index in
    let this : Entry = get_or ys i c.entry-item.result in
    let within : i < length c.args.entries.items = search rules in
    let within_now : i < length ys = search rules in
    let same : this ≡ get_or ys i this = sym (get_or_from_slice_get ys i this this (slice_get-get_or ys i c.entry-item.result within_now)) in
    rw c.place.ensures (map_over_more (placed_entry c.args.before) c.args.entries.items ys i this within c.loop-entry.invariant same)
