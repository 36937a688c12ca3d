use Rattle.std.proofs.Common.{◌≡◌, ◌++◌, ◌∷◌, take}
use Rattle.cgm_cert.specs.Spelling.{header, lines_of}
use Rattle.cgm_cert.proofs.printer.print_cert.Given as goal

abbrev pub invariant-loop-entry : goal.invariant-loop-entry
invariant-loop-entry l = l.out.items ≡ header ++ 10 ∷ lines_of (take l.entry-index l.entries)
