use Rattle.std.proofs.Common.{◌≡◌, ◌++◌, drop, map}
use Rattle.cgm_atom.specs.AtomWords.{spaced}
use Rattle.cgm_encode.specs.ProblemText.{term_word}
use Rattle.cgm_encode.proofs.printer.push_terms.Given as goal

abbrev pub invariant-loop-term : goal.invariant-loop-term
invariant-loop-term l =
    l.out.items ++ spaced (map term_word (drop l.term-index l.terms)) ≡ l.initial.out.items ++ spaced (map term_word l.terms)
