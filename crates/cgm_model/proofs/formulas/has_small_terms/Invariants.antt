use Rattle.std.proofs.Common.{◌≡◌, nat_le, drop}
use Rattle.std.specs.List.{list_all}
use Rattle.std.specs.Prelude.{unsigned_abs}
use Rattle.cgm_base.specs.declared.limit.Which.TheVariants as limits
use Rattle.cgm_base.specs.Words.{limit_number}
use Rattle.cgm_model.proofs.formulas.has_small_terms.Given as goal

abbrev pub invariant-loop-term : goal.invariant-loop-term
invariant-loop-term l =
    list_all (λ t. nat_le (unsigned_abs t.0) (limit_number limits.Coefficient)) (drop l.term-index l.terms)
    ≡ list_all (λ t. nat_le (unsigned_abs t.0) (limit_number limits.Coefficient)) l.terms
