use Rattle.std.proofs.Common.{◌≡◌, ◌++◌, drop, map, take}
use Rattle.cgm_atom.specs.Placing.{placed_entry}
use Rattle.cgm_atom.proofs.placing.place_all.Given as goal

abbrev pub invariant-loop-entry : goal.invariant-loop-entry
invariant-loop-entry l =
    l.entry-items ≡ map (placed_entry l.before) (take l.entry-index l.fn.entries.items) ++ drop l.entry-index l.fn.entries.items
