-- The measure of a row's terms is not more than that of the comparison they come from, and the rows of a comparison are within their limits.
use Rattle.std.proofs.Common.{◌≡◌, ℕ, ◌+◌, ◌*◌, ◌≤◌, Bool, true, false, cond, not, List, [], ◌∷◌, length, refl, sym, ap, ◌∙◌, subst, arith}
use Rattle.std.specs.Prelude.{ℤ, pos, neg_ℤ, ◌+ℤ◌, ◌-ℤ◌, nat_lt, unsigned_abs}
use Rattle.std.proofs.lemmas.Int.{ints}
use Rattle.cgm_atom.specs.declared.constraints.Var.{Var}
use Rattle.cgm_atom.specs.Bounds.{Bounds}
use Rattle.cgm_atom.specs.Instance.{Instance, var_count}
use Rattle.cgm_atom.specs.Limits.{AreTermsOf, greatest_size, max_least, max_measure, measure}
use Rattle.cgm_atom.proofs.Growing.{measure-longer}
use Rattle.cgm_formula.specs.declared.formula.Linear.{Linear}
use Rattle.cgm_model.specs.declared.lists.Lists.{Lists}
use Rattle.cgm_enc_formula.specs.Definitions.{negative}
use Rattle.cgm_enc_formula.specs.Terms.{all_terms_placed, is_zero, nonzero, row_terms, term_placed, variable_terms}
use Rattle.cgm_enc_formula.proofs.Defining.{named}

-- ---- sizes of numbers

pub size_sum : (x y : ℤ) → unsigned_abs (x +ℤ y) ≤ unsigned_abs x + unsigned_abs y
size_sum x y = grind (arith, ints)

size_difference : (x y : ℤ) → unsigned_abs (x -ℤ y) ≤ unsigned_abs x + unsigned_abs y
size_difference x y = grind (arith, ints)

pub opposite_size : (k : ℤ) → unsigned_abs (neg_ℤ k) ≡ unsigned_abs k
opposite_size k = omega (arith, ints)

-- ---- measures of terms

module _ (b : Bounds) where
  nonzero_by : (t : ℤ × Var) (terms rest : List (ℤ × Var)) (zero : Bool) → measure b rest ≤ measure b terms → measure b (cond (not zero) (t ∷ rest) rest) ≤ unsigned_abs t.0 * greatest_size b t.1.0 + measure b terms
  nonzero_by t terms rest true h = omega arith
  nonzero_by t terms rest false h = omega arith

  pub nonzero-measure : (terms : List (ℤ × Var)) → measure b (nonzero terms) ≤ measure b terms
  nonzero-measure [] = omega arith
  nonzero-measure (t ∷ terms) = nonzero_by t terms (nonzero terms) (is_zero t) (nonzero-measure terms)

  pub negative-measure : (terms : List (ℤ × Var)) → measure b (negative terms) ≡ measure b terms
  negative-measure [] = refl
  negative-measure (t ∷ terms) =
      ap (λ n. n * greatest_size b t.1.0 + measure b (negative terms)) (opposite_size t.0)
      ∙ ap (λ n. unsigned_abs t.0 * greatest_size b t.1.0 + n) (negative-measure terms)

  placed_by : (t u : ℤ × Var) (terms rest : List (ℤ × Var)) (before : Bool) → measure b rest ≡ unsigned_abs t.0 * greatest_size b t.1.0 + measure b terms → measure b (cond before (t ∷ u ∷ terms) (u ∷ rest)) ≡ unsigned_abs t.0 * greatest_size b t.1.0 + measure b (u ∷ terms)
  placed_by t u terms rest true h = refl
  placed_by t u terms rest false h = omega arith

  placed-measure : (t : ℤ × Var) (terms : List (ℤ × Var)) → measure b (term_placed t terms) ≡ unsigned_abs t.0 * greatest_size b t.1.0 + measure b terms
  placed-measure t [] = refl
  placed-measure t (u ∷ terms) = placed_by t u terms (term_placed t terms) (nat_lt t.1.0 u.1.0) (placed-measure t terms)

  all_placed-measure : (so_far terms : List (ℤ × Var)) → measure b (all_terms_placed so_far terms) ≡ measure b so_far + measure b terms
  all_placed-measure so_far [] = omega arith
  all_placed-measure so_far (t ∷ terms) =
      let rest = all_placed-measure (term_placed t so_far) terms in
      let first = placed-measure t so_far in
      omega arith

  pub row-measure : (m : Lists) (l : Linear) → measure b (row_terms m l) ≤ measure b (variable_terms m l.terms)
  row-measure m l =
      let all = all_placed-measure [] (nonzero (variable_terms m l.terms)) in
      let kept = nonzero-measure (variable_terms m l.terms) in
      omega arith

-- ---- numbers and terms of the rows of a comparison

part_within : (size x y : ℕ) → x ≡ y → size + y ≤ max_measure → x ≤ max_measure
part_within size x y same h = omega arith

pub terms_within : (b : Bounds) (terms : List (ℤ × Var)) (k : ℤ) → unsigned_abs k + measure b terms ≤ max_measure → measure b terms ≤ max_measure
terms_within b terms k h = part_within (unsigned_abs k) (measure b terms) (measure b terms) refl h

pub negative_within : (b : Bounds) (terms : List (ℤ × Var)) (k : ℤ) → unsigned_abs k + measure b terms ≤ max_measure → measure b (negative terms) ≤ max_measure
negative_within b terms k h = part_within (unsigned_abs k) (measure b (negative terms)) (measure b terms) (negative-measure b terms) h

pub number_within : (b : Bounds) (terms : List (ℤ × Var)) (k : ℤ) → unsigned_abs k + measure b terms ≤ max_measure → unsigned_abs k ≤ max_least
number_within b terms k h = omega arith

pub opposite_within : (b : Bounds) (terms : List (ℤ × Var)) (k : ℤ) → unsigned_abs k + measure b terms ≤ max_measure → unsigned_abs (neg_ℤ k) ≤ max_least
opposite_within b terms k h =
    let same = opposite_size k in
    omega arith

pub next_within : (b : Bounds) (terms : List (ℤ × Var)) (k : ℤ) → unsigned_abs k + measure b terms ≤ max_measure → unsigned_abs (k +ℤ pos 1) ≤ max_least
next_within b terms k h =
    let more = size_sum k (pos 1) in
    omega arith

pub denied_within : (b : Bounds) (terms : List (ℤ × Var)) (k : ℤ) → unsigned_abs k + measure b terms ≤ max_measure → unsigned_abs (pos 1 -ℤ k) ≤ max_least
denied_within b terms k h =
    let more = size_difference (pos 1) k in
    omega arith

-- a row of terms that were known before the naming variable, with the number as it is passed
pub row_size : (old p : Instance) (terms same : List (ℤ × Var)) (passed k : ℤ) → p.bounds ≡ (named old).bounds → same ≡ terms → passed ≡ k → length old.bounds.upper ≡ length old.bounds.lower → AreTermsOf (var_count old) terms → measure old.bounds terms ≤ max_measure → unsigned_abs k ≤ max_least → (measure p.bounds same ≤ max_measure) × (unsigned_abs passed ≤ max_least)
row_size old p terms same passed k bounds e is count known small least =
    let still : measure (named old).bounds terms ≡ measure old.bounds terms = measure-longer old.bounds (pos 0 ∷ []) (pos 1 ∷ []) terms count known in (
      subst (λ (b : Bounds). measure b same ≤ max_measure) (sym bounds)
          (subst (λ (ts : List (ℤ × Var)). measure (named old).bounds ts ≤ max_measure) (sym e)
          (subst (λ (n : ℕ). n ≤ max_measure) (sym still) small)),
      subst (λ (z : ℤ). unsigned_abs z ≤ max_least) (sym is) least,
    )
