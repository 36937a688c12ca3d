use Rattle.std.proofs.Common.{drop}
use Rattle.cgm_model.specs.Model.{lists_of}
use Rattle.cgm_enc_formula.proofs.TermTables.{IsTableAt}
use Rattle.cgm_enc_formula.proofs.terms.by_variable.Given as goal

abbrev pub invariant-loop-term : goal.invariant-loop-term
invariant-loop-term l = IsTableAt (lists_of l.model) l.terms l.coefficients.entries (drop l.term-index l.terms)
