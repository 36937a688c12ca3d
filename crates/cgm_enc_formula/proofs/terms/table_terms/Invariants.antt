use Rattle.std.proofs.Common.{◌≡◌, ◌++◌}
use Rattle.cgm_enc_formula.specs.Terms.{as_terms}
use Rattle.cgm_enc_formula.proofs.terms.table_terms.Given as goal

abbrev pub invariant-loop-variable : goal.invariant-loop-variable
invariant-loop-variable l = l.terms.items ++ as_terms l.variable-iterator ≡ as_terms l.fn.coefficients.entries
