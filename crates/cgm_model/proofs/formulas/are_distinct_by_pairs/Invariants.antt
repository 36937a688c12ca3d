use Rattle.std.proofs.Common.{◌≡◌, true, take}
use Rattle.cgm_model.specs.Formulas.{are_distinct_terms}
use Rattle.cgm_model.proofs.formulas.are_distinct_by_pairs.Given as goal

abbrev pub invariant-loop-place : goal.invariant-loop-place
invariant-loop-place l = are_distinct_terms (take l.place l.terms) ≡ true
