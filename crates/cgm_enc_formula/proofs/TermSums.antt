-- The sum of a row's terms is the value of the linear expression.
use Rattle.std.proofs.Common.{◌≡◌, Bool, true, false, cond, not, List, [], ◌∷◌, refl, ap, arith}
use Rattle.std.specs.Prelude.{ℤ, pos, ◌+ℤ◌, ◌*ℤ◌, nat_lt}
use Rattle.std.proofs.lemmas.Bool.Decides.{Decides-int_eq}
use Rattle.std.proofs.lemmas.Int.{ints}
use Rattle.cgm_atom.specs.declared.constraints.Var.{Var}
use Rattle.cgm_atom.specs.Atoms.{activity}
use Rattle.cgm_atom.specs.Bounds.{value_of}
use Rattle.cgm_formula.specs.declared.formula.Linear.{Linear}
use Rattle.cgm_formula.specs.declared.formula.Number.{Number}
use Rattle.cgm_formula.specs.Truth.{linear_value, total}
use Rattle.cgm_model.specs.declared.lists.Lists.{Lists}
use Rattle.cgm_enc_formula.specs.Terms.{all_terms_placed, is_zero, nonzero, number_variable, term_placed, row_terms, variable_terms}

module _ (values : List ℤ) where
  placed_by : (t u : ℤ × Var) (terms : List (ℤ × Var)) (before : Bool) → activity values (term_placed t terms) ≡ (t.0 *ℤ value_of values t.1.0) +ℤ activity values terms → activity values (cond before (t ∷ u ∷ terms) (u ∷ term_placed t terms)) ≡ (t.0 *ℤ value_of values t.1.0) +ℤ activity values (u ∷ terms)
  placed_by t u terms true h = refl
  placed_by t u terms false h = omega (arith, ints)

  placed-sum : (t : ℤ × Var) (terms : List (ℤ × Var)) → activity values (term_placed t terms) ≡ (t.0 *ℤ value_of values t.1.0) +ℤ activity values terms
  placed-sum t [] = refl
  placed-sum t (u ∷ terms) = placed_by t u terms (nat_lt t.1.0 u.1.0) (placed-sum t terms)

  all_placed-sum : (so_far terms : List (ℤ × Var)) → activity values (all_terms_placed so_far terms) ≡ activity values so_far +ℤ activity values terms
  all_placed-sum so_far [] = omega (arith, ints)
  all_placed-sum so_far (t ∷ terms) =
      let rest = all_placed-sum (term_placed t so_far) terms in
      let first = placed-sum t so_far in
      omega (arith, ints)

  zero_product : (c v : ℤ) → c ≡ pos 0 → c *ℤ v ≡ pos 0
  zero_product c v h = grind (arith, ints)

  nonzero_by : (t : ℤ × Var) (terms rest : List (ℤ × Var)) (zero : Bool) → is_zero t ≡ zero → activity values rest ≡ activity values terms → activity values (cond (not zero) (t ∷ rest) rest) ≡ (t.0 *ℤ value_of values t.1.0) +ℤ activity values terms
  nonzero_by t terms rest true e h =
      let none = zero_product t.0 (value_of values t.1.0) ((Decides-int_eq t.0 (pos 0)).0 e) in
      omega (arith, ints)
  nonzero_by t terms rest false e h = omega (arith, ints)

  nonzero-sum : (terms : List (ℤ × Var)) → activity values (nonzero terms) ≡ activity values terms
  nonzero-sum [] = refl
  nonzero-sum (t ∷ terms) = nonzero_by t terms (nonzero terms) (is_zero t) refl (nonzero-sum terms)

  variables-sum : (m : Lists) (terms : List (ℤ × Number)) → activity values (variable_terms m terms) ≡ total (λ x. value_of values (number_variable m x)) terms
  variables-sum m [] = refl
  variables-sum m (t ∷ terms) = ap (λ (z : ℤ). (t.0 *ℤ value_of values (number_variable m t.1)) +ℤ z) (variables-sum m terms)

  pub row-sum : (m : Lists) (l : Linear) → activity values (row_terms m l) ≡ linear_value (λ x. value_of values (number_variable m x)) l
  row-sum m l =
      let all = all_placed-sum [] (nonzero (variable_terms m l.terms)) in
      let kept = nonzero-sum (variable_terms m l.terms) in
      let named = variables-sum m l.terms in
      omega (arith, ints)
