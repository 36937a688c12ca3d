-- Terms stay those of a row where they are placed in order; those of a rule's comparisons are such.
use Rattle.std.proofs.Common.{◌≡◌, ◌≢◌, ℕ, ◌<◌, ◌≤◌, Bool, true, false, cond, not, List, [], ◌∷◌, refl, sym, ◌∙◌, arith}
use Rattle.std.specs.Prelude.{ℤ, pos, nat_lt}
use Rattle.std.specs.List.{All, list_any}
use Rattle.std.proofs.lemmas.Bool.{and_parts, eq-eqb, not-true, or_parts, true≢false}
use Rattle.std.proofs.lemmas.Bool.Decides.{Decides-int_eq}
use Rattle.std.proofs.lemmas.List.Elements.{All-cons, All-filter, All-head, All-map, All-nil, All-tail}
use Rattle.cgm_atom.specs.declared.constraints.Var.{Var}
use Rattle.cgm_atom.specs.Limits.{AreTermsOf, IsAbsent}
use Rattle.cgm_formula.specs.declared.formula.Linear.{Linear}
use Rattle.cgm_formula.specs.declared.formula.Number.{Number}
use Rattle.cgm_formula.specs.declared.formula.Number.TheVariants as number
use Rattle.cgm_model.specs.declared.lists.Lists.{Lists}
use Rattle.cgm_model.specs.Formulas.{IsKnownNumber, are_distinct_terms, is_same_number}
use Rattle.cgm_enc_formula.specs.Terms.{AreApart, all_terms_placed, is_zero, model_variables, nonzero, number_variable, term_placed, row_terms, variable_terms}

pub terms_wider : (count more : ℕ) → count ≤ more → (terms : List (ℤ × Var)) → AreTermsOf count terms → AreTermsOf more terms
terms_wider count more few [] h = tt
terms_wider count more few (t ∷ terms) h =
    let within = h.0 in
    (omega arith, h.1, h.2, terms_wider count more few terms h.3)

-- ---- a term in its place

absent_by : (x : ℕ) (t u : ℤ × Var) (terms rest : List (ℤ × Var)) (before : Bool) → t.1.0 ≢ x → u.1.0 ≢ x → IsAbsent x terms → IsAbsent x rest → IsAbsent x (cond before (t ∷ u ∷ terms) (u ∷ rest))
absent_by x t u terms rest true h k l r = (h, (k, l))
absent_by x t u terms rest false h k l r = (k, r)

absent_placed : (x : ℕ) (t : ℤ × Var) (terms : List (ℤ × Var)) → t.1.0 ≢ x → IsAbsent x terms → IsAbsent x (term_placed t terms)
absent_placed x t [] h k = (h, tt)
absent_placed x t (u ∷ terms) h k =
    absent_by x t u terms (term_placed t terms) (nat_lt t.1.0 u.1.0) h k.0 k.1 (absent_placed x t terms h k.1)

terms_by : (count : ℕ) (t u : ℤ × Var) (terms rest : List (ℤ × Var)) (before : Bool) → AreTermsOf count (t ∷ u ∷ terms) → IsAbsent u.1.0 rest → AreTermsOf count rest → AreTermsOf count (cond before (t ∷ u ∷ terms) (u ∷ rest))
terms_by count t u terms rest true h k r = h
terms_by count t u terms rest false h k r = (h.3.0, h.3.1, k, r)

terms_placed : (count : ℕ) (t : ℤ × Var) (terms : List (ℤ × Var)) → AreTermsOf count (t ∷ terms) → AreTermsOf count (term_placed t terms)
terms_placed count t [] h = h
terms_placed count t (u ∷ terms) h =
    let apart : t.1.0 ≢ u.1.0 = λ same. h.2.0 (sym same) in
    terms_by count t u terms (term_placed t terms) (nat_lt t.1.0 u.1.0) h
    (absent_placed u.1.0 t terms apart h.3.2)
    (terms_placed count t terms (h.0, h.1, h.2.1, h.3.3))

pub apart_placed : (t : ℤ × Var) (so_far rest : List (ℤ × Var)) → AreApart so_far rest → IsAbsent t.1.0 rest → AreApart (term_placed t so_far) rest
apart_placed t so_far [] h k = tt
apart_placed t so_far (u ∷ rest) h k =
    let apart : t.1.0 ≢ u.1.0 = λ same. k.0 (sym same) in
    (absent_placed u.1.0 t so_far apart h.0, h.1, apart_placed t so_far rest h.2 k.1)

pub terms_all_placed : (count : ℕ) (so_far terms : List (ℤ × Var)) → AreTermsOf count so_far → AreTermsOf count terms → AreApart so_far terms → AreTermsOf count (all_terms_placed so_far terms)
terms_all_placed count so_far [] h k apart = h
terms_all_placed count so_far (t ∷ terms) h k apart =
    terms_all_placed count (term_placed t so_far) terms (terms_placed count t so_far (k.0, k.1, apart.0, h)) k.3 (apart_placed t so_far terms apart.2 apart.1)

pub apart_at_first : (count : ℕ) (terms : List (ℤ × Var)) → AreTermsOf count terms → AreApart [] terms
apart_at_first count [] h = tt
apart_at_first count (t ∷ terms) h = (tt, h.2, apart_at_first count terms h.3)

pub row_terms_known : (m : Lists) (l : Linear) → AreTermsOf (model_variables m) (nonzero (variable_terms m l.terms)) → AreTermsOf (model_variables m) (row_terms m l)
row_terms_known m l h =
    let terms = nonzero (variable_terms m l.terms) in
    terms_all_placed (model_variables m) [] terms tt h (apart_at_first (model_variables m) terms h)

-- ---- terms of a comparison of a well-formed model

number_known : (m : Lists) (x : Number) → IsKnownNumber m x → number_variable m x < model_variables m
number_known m (number.Var k) h = omega arith
number_known m (number.Sum k) h = omega arith

numbers_apart : (m : Lists) (x y : Number) → IsKnownNumber m x → IsKnownNumber m y → is_same_number x y ≡ false → number_variable m x ≢ number_variable m y
numbers_apart m (number.Var j) (number.Var k) h i e same = true≢false (sym (eq-eqb j k (omega arith)) ∙ e)
numbers_apart m (number.Sum j) (number.Sum k) h i e same = true≢false (sym (eq-eqb j k (omega arith)) ∙ e)
numbers_apart m (number.Var j) (number.Sum k) h i e same = absurd (omega arith)
numbers_apart m (number.Sum j) (number.Var k) h i e same = absurd (omega arith)

module _ (m : Lists) where
  absent_nonzero : (x : ℕ) (t : ℤ × Var) (rest : List (ℤ × Var)) (zero : Bool) → t.1.0 ≢ x → IsAbsent x rest → IsAbsent x (cond (not zero) (t ∷ rest) rest)
  absent_nonzero x t rest true h k = k
  absent_nonzero x t rest false h k = (h, k)

  others_absent : (x : Number) (terms : List (ℤ × Number)) → IsKnownNumber m x → All (λ t. IsKnownNumber m t.1) terms → list_any (λ y. is_same_number y.1 x) terms ≡ false → IsAbsent (number_variable m x) (nonzero (variable_terms m terms))
  others_absent x [] h known e = tt
  others_absent x (t ∷ terms) h known e =
      let parts = or_parts (is_same_number t.1 x) (list_any (λ y. is_same_number y.1 x) terms) e in
      let own : ℤ × Var = (t.0, record { 0 = number_variable m t.1 }) in
      absent_nonzero (number_variable m x) own (nonzero (variable_terms m terms)) (is_zero own)
      (numbers_apart m t.1 x (All-head (λ t. IsKnownNumber m t.1) t terms known) h parts.0)
      (others_absent x terms h (All-tail (λ t. IsKnownNumber m t.1) t terms known) parts.1)

  terms_nonzero : (count : ℕ) (t : ℤ × Var) (rest : List (ℤ × Var)) (zero : Bool) → is_zero t ≡ zero → t.1.0 < count → IsAbsent t.1.0 rest → AreTermsOf count rest → AreTermsOf count (cond (not zero) (t ∷ rest) rest)
  terms_nonzero count t rest true e h k l = l
  terms_nonzero count t rest false e h k l = (h, λ is. true≢false (sym ((Decides-int_eq t.0 (pos 0)).1 is) ∙ e), k, l)

  pub terms_known : (terms : List (ℤ × Number)) → All (λ t. IsKnownNumber m t.1) terms → are_distinct_terms terms ≡ true → AreTermsOf (model_variables m) (nonzero (variable_terms m terms))
  terms_known [] known e = tt
  terms_known (t ∷ terms) known e =
      let parts = and_parts (not (list_any (λ y. is_same_number y.1 t.1) terms)) (are_distinct_terms terms) e in
      let own : ℤ × Var = (t.0, record { 0 = number_variable m t.1 }) in
      let here = All-head (λ t. IsKnownNumber m t.1) t terms known in
      let later = All-tail (λ t. IsKnownNumber m t.1) t terms known in
      terms_nonzero (model_variables m) own (nonzero (variable_terms m terms)) (is_zero own) refl (number_known m t.1 here)
      (others_absent t.1 terms here later (not-true (list_any (λ y. is_same_number y.1 t.1) terms) parts.0))
      (terms_known terms later parts.1)

-- ---- a fact of each coefficient

module _ (P : ℤ → Type 0) where
  abbrev Has : ℤ × Var → Type 0
  Has t = P t.0

  placed_by_all : (t u : ℤ × Var) (terms rest : List (ℤ × Var)) (before : Bool) → Has t → All Has (u ∷ terms) → All Has rest → All Has (cond before (t ∷ u ∷ terms) (u ∷ rest))
  placed_by_all t u terms rest true h k l = All-cons Has t (u ∷ terms) h k
  placed_by_all t u terms rest false h k l = All-cons Has u rest (All-head Has u terms k) l

  placed_all : (t : ℤ × Var) (terms : List (ℤ × Var)) → Has t → All Has terms → All Has (term_placed t terms)
  placed_all t [] h k = All-cons Has t [] h k
  placed_all t (u ∷ terms) h k =
      placed_by_all t u terms (term_placed t terms) (nat_lt t.1.0 u.1.0) h k (placed_all t terms h (All-tail Has u terms k))

  all_placed_all : (so_far terms : List (ℤ × Var)) → All Has so_far → All Has terms → All Has (all_terms_placed so_far terms)
  all_placed_all so_far [] h k = h
  all_placed_all so_far (t ∷ terms) h k =
      all_placed_all (term_placed t so_far) terms (placed_all t so_far (All-head Has t terms k) h) (All-tail Has t terms k)

  pub All-row_terms : (m : Lists) (l : Linear) → All (λ t. P t.0) l.terms → All Has (row_terms m l)
  All-row_terms m l h =
      all_placed_all [] (nonzero (variable_terms m l.terms)) (All-nil Has)
      (All-filter (λ t. not (is_zero t)) Has (variable_terms m l.terms) (All-map Has (λ (t : ℤ × Number). (t.0, record { 0 = number_variable m t.1 })) l.terms h))
