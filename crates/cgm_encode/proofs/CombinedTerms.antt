-- A table of numbers by variable has the terms of the shares that were added up in it.
use Rattle.std.proofs.Common.{◌≡◌, ◌≢◌, ℕ, zero, suc, ◌+◌, ◌<◌, ◌≤◌, ◌==◌, Bool, true, false, cond, not, List, [], ◌∷◌, map, refl, sym, ap, ◌∙◌, subst, arith, ⊎_elim, All}
use Rattle.std.specs.Prelude.{ℤ, pos, ◌+ℤ◌, Some}
use Rattle.std.specs.BTreeMap.{BTreeMap, IsOrdered, is_at}
use Rattle.std.specs.List.{AllByRecursion, range_with_len}
use Rattle.std.specs.List.Sorted.{IsStrictlySortedBy}
use Rattle.std.specs.Map.{keys_of, lookup}
use Rattle.std.specs.Option.{unwrap_or}
use Rattle.std.specs.Ordering.{is_eq, nat_cmp}
use Rattle.std.specs.declared.cmp.Ordering.TheVariants.{Less}
use Rattle.std.proofs.lemmas.Bool.{cases_eq, cases_lt, ne_eqb}
use Rattle.std.proofs.lemmas.Bool.Decides.{Decides-int_eq, nat_tests}
use Rattle.std.proofs.lemmas.List.Elements.{All-head, All-tail}
use Rattle.cgm_atom.specs.declared.constraints.Var.{Var}
use Rattle.cgm_enc_formula.specs.Terms.{as_terms, is_zero, nonzero}
use Rattle.cgm_encode.specs.Building.{number_at}
use Rattle.cgm_encode.specs.Totals.{Share, combined, combined_terms}

abbrev Entry : Type 0
Entry = ℕ × ℤ

-- the number at variable x
abbrev at : List Entry → ℕ → ℤ
at es x = unwrap_or (lookup (is_at (nat_cmp x)) es) (pos 0)

-- the variables ascend, from lo on
abbrev pub Ascend : ℕ → List Entry → Type 0
Ascend lo [] = Unit {0}
Ascend lo (e ∷ es) = (lo ≤ e.0) × Ascend (e.0 + 1) es

-- ---- from the order of a map

below : (k y : ℕ) → nat_cmp k y ≡ Less → k + 1 ≤ y
below k y e = grind (arith, nat_tests)

all_below : (k : ℕ) (ks : List ℕ) → AllByRecursion (λ y. nat_cmp k y ≡ Less) ks → AllByRecursion (λ y. k + 1 ≤ y) ks
all_below k [] h = tt
all_below k (y ∷ ks) h = (below k y h.0, all_below k ks h.1)

pub ascending : (lo : ℕ) (es : List Entry) → AllByRecursion (λ y. lo ≤ y) (keys_of es) → IsStrictlySortedBy nat_cmp (keys_of es) → Ascend lo es
unfolding IsStrictlySortedBy
ascending lo [] h sorted = tt
ascending lo (e ∷ es) h sorted = (h.0, ascending (e.0 + 1) es (all_below e.0 (keys_of es) sorted.0) sorted.1)

any_above : (ks : List ℕ) → AllByRecursion (λ y. 0 ≤ y) ks
any_above [] = tt
any_above (k ∷ ks) = (omega arith, any_above ks)

-- ---- look-ups

pub same_key : (x : ℕ) → is_eq (nat_cmp x x) ≡ true
same_key x = grind (arith, nat_tests)

pub other_key : (x k : ℕ) → x ≢ k → is_eq (nat_cmp x k) ≡ false
other_key x k h = grind (arith, nat_tests)

at_first : (e : Entry) (es : List Entry) → at (e ∷ es) e.0 ≡ e.1
at_first e es = ap (λ (t : Bool). unwrap_or (cond t (Some e.1) (lookup (is_at (nat_cmp e.0)) es)) (pos 0)) (same_key e.0)

at_others : (e : Entry) (es : List Entry) (x : ℕ) → x ≢ e.0 → at (e ∷ es) x ≡ at es x
at_others e es x h = ap (λ (t : Bool). unwrap_or (cond t (Some e.1) (lookup (is_at (nat_cmp x)) es)) (pos 0)) (other_key x e.0 h)

not_there : (lo : ℕ) (es : List Entry) (x : ℕ) → Ascend lo es → x < lo → at es x ≡ pos 0
not_there lo [] x h l = refl
not_there lo (e ∷ es) x h l =
    let first = h.0 in
    at_others e es x (λ same. omega arith) ∙ not_there (e.0 + 1) es x h.1 (omega arith)

-- ---- terms

zero_dropped : (t : ℤ × Var) (rest : List (ℤ × Var)) → t.0 ≡ pos 0 → nonzero (t ∷ rest) ≡ nonzero rest
zero_dropped t rest e = ap (λ (b : Bool). cond (not b) (t ∷ nonzero rest) (nonzero rest)) ((Decides-int_eq t.0 (pos 0)).1 e)

same_first : (t u : ℤ × Var) (rest others : List (ℤ × Var)) → t ≡ u → nonzero rest ≡ nonzero others → nonzero (t ∷ rest) ≡ nonzero (u ∷ others)
same_first t u rest others e f =
    ap (λ (x : ℤ × Var). cond (not (is_zero x)) (x ∷ nonzero rest) (nonzero rest)) e
    ∙ ap (λ (xs : List (ℤ × Var)). cond (not (is_zero u)) (u ∷ xs) xs) f

module _ (f : ℕ → ℤ) where
  abbrev term : ℕ → ℤ × Var
  term x = (f x, record { 0 = x })

  all_zero : (lo : ℕ) (es : List Entry) → Ascend lo es → ((x : ℕ) → lo ≤ x → at es x ≡ pos 0) → nonzero (as_terms es) ≡ []
  all_zero lo [] h none = refl
  all_zero lo (e ∷ es) h none =
      zero_dropped (e.1, record { 0 = e.0 }) (as_terms es) (sym (at_first e es) ∙ none e.0 h.0)
      ∙ all_zero (e.0 + 1) es h.1 (λ x l. let first = h.0 in sym (at_others e es x (λ same. omega arith)) ∙ none x (omega arith))

  pub between : (es : List Entry) (lo n : ℕ) → Ascend lo es → ((x : ℕ) → lo ≤ x → at es x ≡ f x) → ((x : ℕ) → lo + n ≤ x → f x ≡ pos 0) → nonzero (as_terms es) ≡ nonzero (map term (range_with_len lo n))
  between es lo zero h same none = all_zero lo es h (λ x l. same x l ∙ none x (omega arith))
  between [] lo (suc n) h same none =
      between [] (lo + 1) n tt (λ x l. same x (omega arith)) (λ x l. none x (omega arith))
      ∙ sym (zero_dropped (term lo) (map term (range_with_len (lo + 1) n)) (sym (same lo (omega arith))))
  between (e ∷ es) lo (suc n) h same none =
      ⊎_elim
      (λ (here : e.0 ≡ lo).
      same_first (e.1, record { 0 = e.0 }) (term lo) (as_terms es) (map term (range_with_len (lo + 1) n))
      (ap (λ (z : ℤ). (z, record { 0 = e.0 })) (sym (at_first e es) ∙ same e.0 h.0) ∙ ap term here)
      (between es (lo + 1) n (subst (λ (k : ℕ). Ascend (k + 1) es) here h.1)
      (λ x l. sym (at_others e es x (λ is. omega arith)) ∙ same x (omega arith))
      (λ x l. none x (omega arith))))
      (λ (later : e.0 ≢ lo).
      let first = h.0 in
      let after : lo < e.0 = ⊎_elim (λ (l : lo < e.0). l) (λ (l : e.0 ≤ lo). absurd (later (omega arith))) (cases_lt lo e.0) in
      between (e ∷ es) (lo + 1) n (omega arith, h.1) (λ x l. same x (omega arith)) (λ x l. none x (omega arith))
      ∙ sym (zero_dropped (term lo) (map term (range_with_len (lo + 1) n)) (sym (same lo (omega arith)) ∙ not_there (lo + 1) (e ∷ es) lo (omega arith, h.1) (omega arith))))
      (cases_eq e.0 lo)

-- ---- shares

nothing_for : (s : Share) (rest : ℤ) (x : ℕ) → s.1 ≢ x → rest ≡ pos 0 → cond (s.1 == x) s.0 (pos 0) +ℤ rest ≡ pos 0
nothing_for s rest x h e = ap (λ (t : Bool). cond t s.0 (pos 0) +ℤ rest) (ne_eqb s.1 x h) ∙ ap (λ (z : ℤ). pos 0 +ℤ z) e

pub past_all : (n : ℕ) (shares : List Share) (x : ℕ) → All (λ s. s.1 < n) shares → n ≤ x → combined shares x ≡ pos 0
past_all n [] x known l = refl
past_all n (s ∷ shares) x known l =
    let first = All-head (λ (s : Share). s.1 < n) s shares known in
    nothing_for s (combined shares x) x (λ same. omega arith) (past_all n shares x (All-tail (λ (s : Share). s.1 < n) s shares known) l)

-- the terms of a table that has the combined numbers
pub table_terms : (n : ℕ) (shares : List Share) (numbers : BTreeMap ℕ ℤ) → IsOrdered nat_cmp numbers → ((x : ℕ) → number_at numbers x ≡ combined shares x) → All (λ s. s.1 < n) shares → nonzero (as_terms numbers.entries) ≡ combined_terms n shares
table_terms n shares numbers ordered is known =
    between (combined shares) numbers.entries 0 n (ascending 0 numbers.entries (any_above (keys_of numbers.entries)) ordered)
    (λ x l. is x) (λ x l. past_all n shares x known (omega arith))
