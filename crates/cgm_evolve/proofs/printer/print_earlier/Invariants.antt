use Rattle.std.proofs.Common.{◌≡◌, ◌++◌, ◌∷◌, codes, take}
use Rattle.std.specs.List.{flat_map}
use Rattle.cgm_evolve.specs.Text.{pair_line}
use Rattle.cgm_evolve.proofs.printer.print_earlier.Given as goal

abbrev pub invariant-loop-pair : goal.invariant-loop-pair
invariant-loop-pair l = l.out.items ≡ codes "earlier 1" ++ 10 ∷ flat_map pair_line (take l.pair-index l.pair-items)
