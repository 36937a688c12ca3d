use Rattle.std.proofs.Common.{◌≡◌, ◌++◌, map, take}
use Rattle.cgm_atom.specs.AtomWords.{spaced}
use Rattle.cgm_cert.specs.Spelling.{hint_word}
use Rattle.cgm_cert.proofs.printer.push_hints.Given as goal

abbrev pub invariant-loop-hint : goal.invariant-loop-hint
invariant-loop-hint l = l.out.items ≡ l.initial.out.items ++ spaced (map hint_word (take l.hint-index l.hints))
