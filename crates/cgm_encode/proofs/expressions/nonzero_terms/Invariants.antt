use Rattle.std.proofs.Common.{◌≡◌, ◌++◌}
use Rattle.cgm_enc_formula.specs.Terms.{as_terms, nonzero}
use Rattle.cgm_encode.proofs.expressions.nonzero_terms.Given as goal

abbrev pub invariant-loop-x : goal.invariant-loop-x
invariant-loop-x l =
    l.terms.items ++ nonzero (as_terms l.x-iterator) ≡ nonzero (as_terms l.numbers.entries)
