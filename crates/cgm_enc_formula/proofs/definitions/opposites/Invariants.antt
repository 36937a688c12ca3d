use Rattle.std.proofs.Common.{◌≡◌, map, take}
use Rattle.cgm_enc_formula.specs.Literals.{opposite}
use Rattle.cgm_enc_formula.proofs.definitions.opposites.Given as goal

abbrev pub invariant-loop-l : goal.invariant-loop-l
invariant-loop-l l = l.opposites.items ≡ map opposite (take l.l-index l.literals)
