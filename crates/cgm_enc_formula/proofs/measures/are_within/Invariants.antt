use Rattle.std.proofs.Common.{◌≡◌, ◌+◌, drop}
use Rattle.cgm_atom.specs.Limits.{measure}
use Rattle.cgm_model.specs.Model.{lists_of}
use Rattle.cgm_enc_formula.specs.Terms.{variable_terms}
use Rattle.cgm_enc_formula.proofs.measures.are_within.Given as goal

abbrev pub invariant-loop-term : goal.invariant-loop-term
invariant-loop-term l =
    l.room + measure l.builder.bounds (variable_terms (lists_of l.model) l.terms)
    ≡ l.most + measure l.builder.bounds (variable_terms (lists_of l.model) (drop l.term-index l.terms))
