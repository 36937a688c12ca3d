-- The measure of a comparison, and the first rule with a comparison whose measure passes the limit.
use Rattle.std.specs.Prelude.{◌≡◌, ℕ, ◌+◌, nat_le, Bool, true, ℤ, unsigned_abs, Result, Ok, Err}
use Rattle.std.specs.List.{All, list_all}
use Rattle.cgm_atom.specs.Bounds.{Bounds}
use Rattle.cgm_atom.specs.Instance.{Instance, var_count}
use Rattle.cgm_atom.specs.Limits.{max_measure, measure}
use Rattle.cgm_formula.specs.declared.formula.Formula.{Formula}
use Rattle.cgm_formula.specs.declared.formula.Linear.{Linear}
use Rattle.cgm_formula.specs.Nodes.{comparisons}
use Rattle.cgm_model.specs.declared.lists.Lists.{Lists}
use Rattle.cgm_model.specs.declared.lists.Rule.{Rule}
use Rattle.cgm_model.specs.Formulas.{IsKnownNumber, formula_of}
use Rattle.cgm_base.specs.Place.{Each, FirstFails}
use Rattle.cgm_enc_formula.specs.declared.stop.EncodeStop.{EncodeStop}
use Rattle.cgm_enc_formula.specs.declared.stop.EncodeStop.TheVariants as stops
use Rattle.cgm_enc_formula.specs.Building.{rules_part, with_part}
use Rattle.cgm_enc_formula.specs.Terms.{variable_terms}

-- the size of the number, and over the terms coefficient size times the greatest bound size
abbrev pub comparison_measure : Lists → Bounds → Linear × ℤ → ℕ
comparison_measure m b c = unsigned_abs c.1 + measure b (variable_terms m c.0.terms)

-- each comparison of the formula is within the limit
abbrev pub has_small_measures : Lists → Bounds → Formula → Bool
has_small_measures m b f = list_all (λ c. nat_le (comparison_measure m b c) max_measure) (comparisons f)

-- the variables and sums of the formula's comparisons are there
abbrev pub HasKnownNumbers : Lists → Formula → Type 0
HasKnownNumbers m f = All (λ c. All (λ t. IsKnownNumber m t.1) c.0.terms) (comparisons f)

abbrev pub IsWithinMeasure : Lists → Bounds → ℕ → Rule → Type 0
IsWithinMeasure m b place r = has_small_measures m b (formula_of r) ≡ true

-- the part of the rules is added; or this is the first rule with a measure past the limit, by its number, and nothing is added
abbrev pub IsRulesAnswer : Lists → Instance → Instance → Result (Unit {0}) EncodeStop → Type 0
IsRulesAnswer m old new (Ok _) =
    Each (IsWithinMeasure m old.bounds) m.rules × (new ≡ with_part old (rules_part m (var_count old) m.rules))
IsRulesAnswer m old new (Err (stops.Row rule)) = FirstFails (IsWithinMeasure m old.bounds) m.rules rule × (new ≡ old)
IsRulesAnswer m old new (Err stops.Memory) = Each (IsWithinMeasure m old.bounds) m.rules
