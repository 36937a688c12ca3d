use Rattle.std.proofs.Common.{◌≡◌, drop}
use Rattle.std.specs.List.{list_any}
use Rattle.cgm_model.specs.Formulas.{is_same_number}
use Rattle.cgm_model.proofs.formulas.stands_among.Given as goal

abbrev pub invariant-loop-term : goal.invariant-loop-term
invariant-loop-term l =
    list_any (λ u. is_same_number u.1 l.number) (drop l.term-index l.terms) ≡ list_any (λ u. is_same_number u.1 l.number) l.terms
