use Rattle.std.proofs.Common.{◌≡◌, ◌++◌, drop, map, take}
use Rattle.cgm_atom.specs.Placing.{placed}
use Rattle.cgm_atom.proofs.placing.place_hints.Given as goal

abbrev pub invariant-loop-hint : goal.invariant-loop-hint
invariant-loop-hint l =
    l.hint-items ≡ map (placed l.before) (take l.hint-index l.fn.hints) ++ drop l.hint-index l.fn.hints
