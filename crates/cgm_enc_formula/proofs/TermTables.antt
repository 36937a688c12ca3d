-- A table of coefficients by variable holds the terms so far in their order.
use Rattle.std.proofs.Common.{◌≡◌, ◌≢◌, ℕ, ◌==◌, Bool, true, false, cond, not, List, [], ◌∷◌, refl, sym, ap, ◌∙◌, subst}
use Rattle.std.specs.Prelude.{ℤ, pos, nat_lt}
use Rattle.std.specs.BTreeMap.{insert_entry}
use Rattle.std.specs.Ordering.{match_ordering, nat_cmp}
use Rattle.std.specs.declared.cmp.Ordering.TheVariants.{Less, Equal, Greater}
use Rattle.std.proofs.lemmas.Bool.{eqb-true}
use Rattle.std.proofs.lemmas.Bool.Decides.{Decides-int_eq}
use Rattle.cgm_atom.specs.declared.constraints.Var.{Var}
use Rattle.cgm_atom.specs.Limits.{AreTermsOf, IsAbsent}
use Rattle.cgm_formula.specs.declared.formula.Number.{Number}
use Rattle.cgm_model.specs.declared.lists.Lists.{Lists}
use Rattle.cgm_enc_formula.specs.Terms.{AreApart, all_terms_placed, as_terms, is_zero, model_variables, nonzero, number_variable, term_placed, variable_terms}
use Rattle.cgm_enc_formula.proofs.TermOrders.{apart_at_first, apart_placed}

-- ---- an entry with a new key

abbrev term_of : ℕ → ℤ → ℤ × Var
term_of k v = (v, record { 0 = k })

by_order : (e : ℕ × ℤ) (es rest : List (ℕ × ℤ)) (k : ℕ) (v : ℤ) (less same : Bool) → (same ≡ true → ⊥) → as_terms rest ≡ term_placed (term_of k v) (as_terms es) → as_terms (match_ordering (cond less Less (cond same Equal Greater)) ((k, v) ∷ e ∷ es) ((e.0, v) ∷ es) (e ∷ rest)) ≡ cond less (term_of k v ∷ as_terms (e ∷ es)) (term_of e.0 e.1 ∷ term_placed (term_of k v) (as_terms es))
by_order e es rest k v true same apart h = refl
by_order e es rest k v false true apart h = absurd (apart refl)
by_order e es rest k v false false apart h = ap (λ (terms : List (ℤ × Var)). term_of e.0 e.1 ∷ terms) h

pub insert_placed : (es : List (ℕ × ℤ)) (k : ℕ) (v : ℤ) → IsAbsent k (as_terms es) → as_terms (insert_entry nat_cmp es k v) ≡ term_placed (term_of k v) (as_terms es)
insert_placed [] k v h = refl
insert_placed (e ∷ es) k v h =
    by_order e es (insert_entry nat_cmp es k v) k v (nat_lt k e.0) (k == e.0) (λ is. h.0 (sym (eqb-true k e.0 is))) (insert_placed es k v h.1)

-- ---- the next term, unless its coefficient is 0

module _ (m : Lists) where
  abbrev own : ℤ × Number → ℤ × Var
  own t = term_of (number_variable m t.1) t.0

  abbrev left : List (ℤ × Number) → List (ℤ × Var)
  left terms = nonzero (variable_terms m terms)

  not_zero : (t : ℤ × Number) → t.0 ≢ pos 0 → is_zero (own t) ≡ false
  not_zero t h = not_true (is_zero (own t)) (λ e. h ((Decides-int_eq t.0 (pos 0)).0 e))
    where
      not_true : (b : Bool) → (b ≡ true → ⊥) → b ≡ false
      not_true true h = absurd (h refl)
      not_true false h = refl

  pub one_left : (t : ℤ × Number) → t.0 ≢ pos 0 → left (t ∷ []) ≡ own t ∷ []
  one_left t h = ap (λ (zero : Bool). cond (not zero) (own t ∷ []) []) (not_zero t h)

  pub inserted : (t : ℤ × Number) (es fs : List (ℕ × ℤ)) (k : ℕ) → t.0 ≢ pos 0 → k ≡ number_variable m t.1 → AreApart (as_terms es) (left (t ∷ [])) → fs ≡ insert_entry nat_cmp es k t.0 → as_terms fs ≡ all_terms_placed (as_terms es) (left (t ∷ []))
  inserted t es fs k h at apart is =
      let x = number_variable m t.1 in
      let absent : IsAbsent x (as_terms es) = (subst (λ (terms : List (ℤ × Var)). AreApart (as_terms es) terms) (one_left t h) apart).0 in
      ap (λ (entries : List (ℕ × ℤ)). as_terms entries) (is ∙ ap (λ (i : ℕ). insert_entry nat_cmp es i t.0) at)
      ∙ insert_placed es x t.0 absent
      ∙ ap (λ (terms : List (ℤ × Var)). all_terms_placed (as_terms es) terms) (sym (one_left t h))

  -- ---- all terms, one after another

  -- the table has the terms before the rest
  pub record IsTableAt (all : List (ℤ × Number)) (es : List (ℕ × ℤ)) (rest : List (ℤ × Number)) : Type 0 where
    pub terms : AreTermsOf (model_variables m) (left rest)
    pub apart : AreApart (as_terms es) (left rest)
    pub total : all_terms_placed (as_terms es) (left rest) ≡ all_terms_placed [] (left all)

  pub table_at_first : (all : List (ℤ × Number)) → AreTermsOf (model_variables m) (left all) → IsTableAt all [] all
  table_at_first all h = record { terms = h; apart = apart_at_first (model_variables m) (left all) h; total = refl }

  first_known : (t : ℤ × Number) (rest : List (ℤ × Var)) (zero : Bool) → AreTermsOf (model_variables m) (cond (not zero) (own t ∷ rest) rest) → AreTermsOf (model_variables m) (cond (not zero) (own t ∷ []) [])
  first_known t rest true h = tt
  first_known t rest false h = (h.0, h.1, tt, tt)

  first_apart : (es : List (ℤ × Var)) (t : ℤ × Number) (rest : List (ℤ × Var)) (zero : Bool) → AreApart es (cond (not zero) (own t ∷ rest) rest) → AreApart es (cond (not zero) (own t ∷ []) [])
  first_apart es t rest true h = tt
  first_apart es t rest false h = (h.0, tt, tt)

  rest_known : (t : ℤ × Number) (rest : List (ℤ × Var)) (zero : Bool) → AreTermsOf (model_variables m) (cond (not zero) (own t ∷ rest) rest) → AreTermsOf (model_variables m) rest
  rest_known t rest true h = h
  rest_known t rest false h = h.3

  rest_apart : (es : List (ℤ × Var)) (t : ℤ × Number) (rest : List (ℤ × Var)) (zero : Bool) → AreApart es (cond (not zero) (own t ∷ rest) rest) → AreApart (all_terms_placed es (cond (not zero) (own t ∷ []) [])) rest
  rest_apart es t rest true h = h
  rest_apart es t rest false h = apart_placed (own t) es rest h.2 h.1

  rest_total : (es : List (ℤ × Var)) (t : ℤ × Number) (rest : List (ℤ × Var)) (zero : Bool) → all_terms_placed (all_terms_placed es (cond (not zero) (own t ∷ []) [])) rest ≡ all_terms_placed es (cond (not zero) (own t ∷ rest) rest)
  rest_total es t rest true = refl
  rest_total es t rest false = refl

  pub next_known : (all rest : List (ℤ × Number)) (es : List (ℕ × ℤ)) (t : ℤ × Number) → IsTableAt all es (t ∷ rest) → AreTermsOf (model_variables m) (left (t ∷ []))
  next_known all rest es t far = first_known t (left rest) (is_zero (own t)) far.terms

  pub next_apart : (all rest : List (ℤ × Number)) (es : List (ℕ × ℤ)) (t : ℤ × Number) → IsTableAt all es (t ∷ rest) → AreApart (as_terms es) (left (t ∷ []))
  next_apart all rest es t far = first_apart (as_terms es) t (left rest) (is_zero (own t)) far.apart

  pub table_more : (all rest : List (ℤ × Number)) (es fs : List (ℕ × ℤ)) (t : ℤ × Number) → IsTableAt all es (t ∷ rest) → as_terms fs ≡ all_terms_placed (as_terms es) (left (t ∷ [])) → IsTableAt all fs rest
  table_more all rest es fs t far is = record {
    terms = rest_known t (left rest) (is_zero (own t)) far.terms;
    apart = subst (λ (terms : List (ℤ × Var)). AreApart terms (left rest)) (sym is) (rest_apart (as_terms es) t (left rest) (is_zero (own t)) far.apart);
    total = ap (λ (terms : List (ℤ × Var)). all_terms_placed terms (left rest)) is ∙ rest_total (as_terms es) t (left rest) (is_zero (own t)) ∙ far.total;
  }
