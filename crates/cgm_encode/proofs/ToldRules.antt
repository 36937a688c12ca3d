-- The values of the naming variables of all rules of a model are the truths of their formulas' nodes.
use Rattle.std.proofs.Common.{◌≡◌, ℕ, ◌+◌, ◌<◌, Bool, true, false, not, List, [], ◌∷◌, ◌++◌, length, map, sym, ap, ◌∙◌, subst, arith}
use Rattle.std.specs.Prelude.{ℤ, pos, int_le}
use Rattle.std.specs.List.{All, AllByRecursion}
use Rattle.std.proofs.lemmas.List.{append-nil, get_or-append-add, get_or-map, get_or_append_left, length-append, length-map}
use Rattle.std.proofs.lemmas.List.Elements.{recursion_from_All}
use Rattle.std.proofs.lemmas.List.FromFn.{length-map-range_with_len}
use Rattle.cgm_atom.specs.Bounds.{value_of}
use Rattle.cgm_atom.specs.Literals.{bit, truth_at}
use Rattle.cgm_formula.specs.declared.assignment.Assignment.{Assignment}
use Rattle.cgm_formula.specs.declared.formula.Number.{Number}
use Rattle.cgm_formula.specs.declared.formula.Number.TheVariants as number
use Rattle.cgm_formula.specs.declared.formula.Truth.{Truth}
use Rattle.cgm_formula.specs.declared.formula.Truth.TheVariants.{Element, Refinement}
use Rattle.cgm_formula.specs.Reading.{name_in, number_in}
use Rattle.cgm_model.specs.declared.lists.Lists.{Lists}
use Rattle.cgm_model.specs.declared.lists.Preference.{Preference}
use Rattle.cgm_model.specs.declared.lists.Rule.{Rule}
use Rattle.cgm_model.specs.Assignment.{Fits}
use Rattle.cgm_model.specs.Formulas.{IsKnownNumber, IsKnownTruth, formula_of}
use Rattle.cgm_model.specs.Sums.{sum_value, sums_of}
use Rattle.cgm_model.specs.TruthVariables.{truth_variables, variable_of}
use Rattle.cgm_model.specs.WellFormed.{IsWellFormedModel}
use Rattle.cgm_obj.specs.Counts.{is_met}
use Rattle.cgm_enc_formula.specs.Laws.{extended}
use Rattle.cgm_enc_formula.specs.NamingValues.{rule_truths}
use Rattle.cgm_enc_formula.specs.Rules.{rule_definitions}
use Rattle.cgm_enc_formula.specs.Terms.{model_variables, number_variable}
use Rattle.cgm_enc_formula.proofs.NamingKnown.{rule_formulas_known}
use Rattle.cgm_enc_formula.proofs.ToldValues.{IsReadable, Reads, formulas_told, two}
use Rattle.cgm_enc_formula.proofs.WellFormedRules.{each_rule}
use Rattle.cgm_encode.specs.Assignments.{choice_values, number_values, rule_values}

abbrev IsReadableRule : Lists → (Truth → Bool) → (Number → ℤ) → Rule → Type 0
IsReadableRule m names numbers r = IsReadable m names numbers (formula_of r)

readable_rules : (m : Lists) (names : Truth → Bool) (numbers : Number → ℤ) → ∥ IsWellFormedModel m ∥₁ → All (IsReadableRule m names numbers) m.rules
readable_rules m names numbers well k d l =
    let known = rule_formulas_known m well k d l in
    let rule = each_rule m well k d l in
    record {
      names_known = known.names;
      terms_known = λ i e h. (known.terms i e h, rule.proper.formula.numbers i e h);
    }

rules_told : (m : Lists) (names : Truth → Bool) (numbers : Number → ℤ) (rs : List Rule) → AllByRecursion (IsReadableRule m names numbers) rs → (values : List ℤ) → Reads m names numbers values → extended values (rule_definitions m (length values) rs) ≡ values ++ map bit (rule_truths names numbers rs)
rules_told m names numbers [] h values reads = sym (append-nil values)
rules_told m names numbers (r ∷ rs) h values reads =
    two m names numbers (formula_of r) values (λ n. rule_definitions m n rs) (rule_truths names numbers rs) (formulas_told m names numbers (formula_of r)) reads h.0
    (rules_told m names numbers rs h.1)

-- ---- the values of elements, refinements, variables and sums

behind : (xs ys : List ℤ) (n k : ℕ) → length xs ≡ n → value_of (xs ++ ys) (n + k) ≡ value_of ys k
behind xs ys n k e = subst (λ (i : ℕ). value_of (xs ++ ys) (i + k) ≡ value_of ys k) e (get_or-append-add xs ys k (pos 0))

truth_of_bit : (values : List ℤ) (x : ℕ) (b : Bool) → value_of values x ≡ bit b → truth_at values x ≡ b
truth_of_bit values x true e = ap (λ (z : ℤ). int_le (pos 1) z) e
truth_of_bit values x false e = ap (λ (z : ℤ). int_le (pos 1) z) e

module _ (m : Lists) (a : Assignment) (fits : Fits m a) where
  abbrev elements : List ℤ
  elements = map bit a.elements

  abbrev refinements : List ℤ
  refinements = map bit a.refinements

  abbrev truths : List ℤ
  truths = elements ++ refinements

  abbrev own : List ℤ
  own = truths ++ a.vars

  abbrev values : List ℤ
  values = number_values m a

  elements_long : length elements ≡ length m.elements
  elements_long = length-map a.elements bit ∙ fits.elements

  truths_long : length truths ≡ truth_variables m
  truths_long =
      let both = length-append elements refinements in
      let last = length-map a.refinements bit in
      let first = elements_long in
      let fit = fits.refinements in
      omega arith

  own_long : length own ≡ truth_variables m + length m.vars
  own_long =
      let both = length-append truths a.vars in
      let first = truths_long in
      let fit = fits.vars in
      omega arith

  values_long : length values ≡ model_variables m
  values_long =
      let both = length-append own (sums_of m a) in
      let first = own_long in
      let last = length-map-range_with_len (sum_value m a) 0 (length m.sums) in
      omega arith

  own_at : (x : ℕ) → x < truth_variables m + length m.vars → value_of values x ≡ value_of own x
  own_at x l = let long = own_long in get_or_append_left own (sums_of m a) (pos 0) x (omega arith)

  truth_value_at : (x : ℕ) → x < truth_variables m → value_of values x ≡ value_of truths x
  truth_value_at x l = let long = truths_long in own_at x (omega arith) ∙ get_or_append_left truths a.vars (pos 0) x (omega arith)

  name_value : (t : Truth) → IsKnownTruth m t → value_of values (variable_of m t) ≡ bit (name_in a t)
  name_value (Element k) l =
      let long = elements_long in
      let fit = fits.elements in
      truth_value_at k (omega arith) ∙ get_or_append_left elements refinements (pos 0) k (omega arith) ∙ get_or-map bit a.elements k false (pos 0) (omega arith)
  name_value (Refinement k) l =
      let fit = fits.refinements in
      truth_value_at (length m.elements + k) (omega arith) ∙ behind elements refinements (length m.elements) k elements_long ∙ get_or-map bit a.refinements k false (pos 0) (omega arith)

  number_value : (x : Number) → IsKnownNumber m x → value_of values (number_variable m x) ≡ number_in a (sums_of m a) x
  number_value (number.Var k) l = own_at (truth_variables m + k) (omega arith) ∙ behind truths a.vars (truth_variables m) k truths_long
  number_value (number.Sum k) l = behind own (sums_of m a) (truth_variables m + length m.vars) k own_long

  reads : Reads m (name_in a) (number_in a (sums_of m a)) values
  reads =
      let long = values_long in
      record {
        long = omega arith;
        names_are = λ t known. truth_of_bit values (variable_of m t) (name_in a t) (name_value t known);
        numbers_are = number_value;
      }

  pub rule_values_told : ∥ IsWellFormedModel m ∥₁ → rule_values m a ≡ number_values m a ++ map bit (rule_truths (name_in a) (number_in a (sums_of m a)) m.rules)
  rule_values_told well =
      let names = name_in a in
      let numbers = number_in a (sums_of m a) in
      ap (λ (n : ℕ). extended values (rule_definitions m n m.rules)) (sym values_long)
      ∙ rules_told m names numbers m.rules (recursion_from_All (IsReadableRule m names numbers) m.rules (readable_rules m names numbers well)) values reads

  -- one group behind another
  pub choices_told : (old one two three sums : List ℤ) (rules : List Rule) (prefers : List Preference) → ∥ IsWellFormedModel m ∥₁ → old ≡ [] → sums ≡ sums_of m a → one ≡ old ++ (own ++ sums) → rules ≡ m.rules → two ≡ one ++ map bit (rule_truths (name_in a) (number_in a sums) rules) → prefers ≡ m.prefers → three ≡ two ++ map (λ p. bit (not (is_met a p))) prefers → three ≡ choice_values m a
  choices_told old one two three sums rules prefers well empty totals first same second are third =
      let numbers = ap (λ (l : List ℤ). l ++ (own ++ sums)) empty ∙ ap (λ (l : List ℤ). own ++ l) totals in
      let start : one ≡ values = first ∙ numbers in
      let named : two ≡ rule_values m a =
      second
      ∙ ap (λ (l : List ℤ). l ++ map bit (rule_truths (name_in a) (number_in a sums) rules)) start
      ∙ ap (λ (rs : List Rule). values ++ map bit (rule_truths (name_in a) (number_in a sums) rs)) same
      ∙ ap (λ (l : List ℤ). values ++ map bit (rule_truths (name_in a) (number_in a l) m.rules)) totals
      ∙ sym (rule_values_told well) in
      third
      ∙ ap (λ (l : List ℤ). l ++ map (λ p. bit (not (is_met a p))) prefers) named
      ∙ ap (λ (ps : List Preference). rule_values m a ++ map (λ p. bit (not (is_met a p))) ps) are
