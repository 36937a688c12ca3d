-- The rules of a well-formed model can be encoded where their measures are within the limit, and there is room for them.
use Rattle.std.proofs.Common.{◌≡◌, ℕ, ◌+◌, ◌^◌, ◌≤◌, true, List, [], ◌∷◌, length, get_or, arith}
use Rattle.std.specs.Prelude.{ℤ, nat_le, unsigned_abs}
use Rattle.std.specs.List.{All}
use Rattle.std.proofs.lemmas.Bool.{leb-true}
use Rattle.std.proofs.lemmas.List.Elements.{All-cons, All-nil}
use Rattle.std.proofs.lemmas.List.Sums.{AllPass-from_list_all}
use Rattle.cgm_atom.specs.Bounds.{Bounds}
use Rattle.cgm_atom.specs.Instance.{Instance, var_count}
use Rattle.cgm_atom.specs.Limits.{max_measure, measure}
use Rattle.cgm_base.specs.declared.limit.Which.TheVariants as limits
use Rattle.cgm_base.specs.Words.{limit_number}
use Rattle.cgm_formula.specs.declared.formula.Linear.{Linear}
use Rattle.cgm_formula.specs.Nodes.{comparisons}
use Rattle.cgm_model.specs.declared.lists.Lists.{Lists}
use Rattle.cgm_model.specs.declared.lists.Rule.{Rule}
use Rattle.cgm_model.specs.Formulas.{formula_of, has_distinct_terms, has_small_terms, is_small}
use Rattle.cgm_base.specs.Place.{Each, EachFrom}
use Rattle.cgm_model.specs.WellFormed.{IsRule, IsWellFormedModel}
use Rattle.cgm_enc_formula.specs.Building.{HasRoomFor, rules_part}
use Rattle.cgm_enc_formula.specs.Measures.{HasKnownNumbers, IsWithinMeasure, comparison_measure, has_small_measures}
use Rattle.cgm_enc_formula.specs.Rules.{IsEncodableRule}
use Rattle.cgm_enc_formula.specs.Terms.{IsEncodableFormula, row_terms, variable_terms}
use Rattle.cgm_enc_formula.proofs.RuleSizes.{rules_part_small}
use Rattle.cgm_enc_formula.proofs.TermMeasures.{row-measure}
use Rattle.cgm_enc_formula.proofs.TermOrders.{terms_known}
use Rattle.cgm_enc_formula.proofs.WellFormedRules.{each_rule}

-- a fact of each item, whatever its place
all_from_each : {X : Type 0} (P : X → Type 0) (place : ℕ) (xs : List X) → EachFrom place (λ _ x. P x) xs → All P xs
all_from_each P place [] h = All-nil P
all_from_each P place (x ∷ xs) h = All-cons P x xs h.0 (all_from_each P (place + 1) xs h.1)

small_terms : (l : Linear) → has_small_terms l ≡ true → All (λ t. unsigned_abs t.0 ≤ limit_number limits.Coefficient) l.terms
small_terms l h k d within =
    leb-true (unsigned_abs (get_or l.terms k d).0) (limit_number limits.Coefficient) (AllPass-from_list_all (λ t. is_small t.0) l.terms h k d within)

module _ (m : Lists) (b : Bounds) where
  within : (size x y : ℕ) → size + y ≤ max_measure → x ≤ y → size + x ≤ max_measure
  within size x y h less = omega arith

  row_small : (c : Linear × ℤ) → nat_le (comparison_measure m b c) max_measure ≡ true → unsigned_abs c.1 + measure b (row_terms m c.0) ≤ max_measure
  row_small c h =
      within (unsigned_abs c.1) (measure b (row_terms m c.0)) (measure b (variable_terms m c.0.terms)) (leb-true (comparison_measure m b c) max_measure h) (row-measure b m c.0)

  formula_encodable : (r : Rule) → IsRule m r → has_small_measures m b (formula_of r) ≡ true → IsEncodableFormula m b (formula_of r)
  formula_encodable r rule h = record {
    names = rule.proper.formula.names;
    comparisons = λ k d l. record {
      terms = terms_known m (get_or (comparisons (formula_of r)) k d).0.terms (rule.proper.formula.numbers k d l) (AllPass-from_list_all (λ c. has_distinct_terms c.0) (comparisons (formula_of r)) rule.distinct k d l);
      coefficients = small_terms (get_or (comparisons (formula_of r)) k d).0 (AllPass-from_list_all (λ c. has_small_terms c.0) (comparisons (formula_of r)) rule.small k d l);
      size = row_small (get_or (comparisons (formula_of r)) k d) (AllPass-from_list_all (λ c. nat_le (comparison_measure m b c) max_measure) (comparisons (formula_of r)) h k d l);
    };
  }

  rule_encodable : (r : Rule) → IsRule m r → has_small_measures m b (formula_of r) ≡ true → IsEncodableRule m b r
  rule_encodable r rule h = record { condition = rule.proper.condition; formula = formula_encodable r rule h }

  pub rules_encodable : ∥ IsWellFormedModel m ∥₁ → Each (IsWithinMeasure m b) m.rules → All (IsEncodableRule m b) m.rules
  rules_encodable well h k d l =
      rule_encodable (get_or m.rules k d) (each_rule m well k d l) (all_from_each (λ r. has_small_measures m b (formula_of r) ≡ true) 0 m.rules h k d l)

pub known_numbers : (m : Lists) → ∥ IsWellFormedModel m ∥₁ → All (λ r. HasKnownNumbers m (formula_of r)) m.rules
known_numbers m well k d l = (each_rule m well k d l).proper.formula.numbers

pub room_for_rules : (m : Lists) (p : Instance) → ∥ IsWellFormedModel m ∥₁ → var_count p ≤ 2 ^ 31 → length p.clauses ≤ 2 ^ 31 + 2 ^ 28 → length p.rows ≤ 2 ^ 31 → HasRoomFor p (rules_part m (var_count p) m.rules)
room_for_rules m p well few_variables few_clauses few_rows =
    let small = rules_part_small m (var_count p) well in
    let names = small.names in
    let clauses = small.clauses in
    let rows = small.rows in
    record { names = omega arith; clauses = omega arith; rows = omega arith }
