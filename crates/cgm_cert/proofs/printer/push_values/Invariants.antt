use Rattle.std.proofs.Common.{◌≡◌, ◌++◌, map, take}
use Rattle.std.specs.Fmt.{signed_decimal}
use Rattle.cgm_atom.specs.AtomWords.{spaced}
use Rattle.cgm_cert.proofs.printer.push_values.Given as goal

abbrev pub invariant-loop-value : goal.invariant-loop-value
invariant-loop-value l = l.out.items ≡ l.initial.out.items ++ spaced (map signed_decimal (take l.value-index l.values))
