-- What `find` says of the items: where it finds none each fails, and what it finds passes.
use Rattle.std.proofs.Common.{◌≡◌, ℕ, zero, suc, ◌+◌, ◌<◌, ◌≤◌, Bool, true, false, List, [], ◌∷◌, ◌++◌, map, refl, subst, ap, inl, inr, ◌∙◌, arith}
use Rattle.std.specs.Prelude.{cond, find, Option, Some, None}
use Rattle.std.specs.List.{AllByRecursion, range_with_len}
use Rattle.std.specs.Option.{option_or}
use Rattle.std.proofs.lemmas.List.Folds.{find-append}
use Rattle.std.proofs.Math.Nat.{eq-or-lt_of_le}
use Rattle.cgm_atom.specs.declared.constraints.Var.{Var}
use Rattle.cgm_split.specs.Drawing.{by_number}

none_step : (p : Var → Bool) (v : Var) (vs : List Var) (t : Bool) → p v ≡ t → cond t (Some v) (find p vs) ≡ None → (find p vs ≡ None → AllByRecursion (λ u. p u ≡ false) vs) → AllByRecursion (λ u. p u ≡ false) (v ∷ vs)
none_step p v vs true e h rest = absurd (cc)
none_step p v vs false e h rest = (e, rest h)

pub fails_of_none : (p : Var → Bool) (vs : List Var) → find p vs ≡ None → AllByRecursion (λ u. p u ≡ false) vs
fails_of_none p [] h = tt
fails_of_none p (v ∷ vs) h = none_step p v vs (p v) refl h (fails_of_none p vs)

pub none_of_fails : (p : Var → Bool) (vs : List Var) → AllByRecursion (λ u. p u ≡ false) vs → find p vs ≡ None
none_of_fails p [] h = refl
none_of_fails p (v ∷ vs) h = rw h.0 (none_of_fails p vs h.1)

found_step : (p : Var → Bool) (v u : Var) (vs : List Var) (t : Bool) → p v ≡ t → cond t (Some v) (find p vs) ≡ Some u → (find p vs ≡ Some u → p u ≡ true) → p u ≡ true
found_step p v u vs true e h rest = let same : v ≡ u = cc in rw (← same) e
found_step p v u vs false e h rest = rest h

pub found_passes : (p : Var → Bool) (vs : List Var) (u : Var) → find p vs ≡ Some u → p u ≡ true
found_passes p [] u h = absurd (cc)
found_passes p (v ∷ vs) u h = found_step p v u vs (p v) refl h (found_passes p vs u)

kept_step : (P : Var → Type 0) (p : Var → Bool) (v u : Var) (vs : List Var) (t : Bool) → P v → cond t (Some v) (find p vs) ≡ Some u → (find p vs ≡ Some u → P u) → P u
kept_step P p v u vs true e h rest = let same : v ≡ u = cc in subst P same e
kept_step P p v u vs false e h rest = rest h

-- what holds of each item holds of the one that is found
pub found_keeps : (P : Var → Type 0) (p : Var → Bool) (vs : List Var) (u : Var) → AllByRecursion P vs → find p vs ≡ Some u → P u
found_keeps P p [] u all h = absurd (cc)
found_keeps P p (v ∷ vs) u all h = kept_step P p v u vs (p v) all.0 h (found_keeps P p vs u all.1)

-- ---- in two lists

pub found_before : (p : Var → Bool) (us vs : List Var) (v : Var) → find p us ≡ Some v → find p (us ++ vs) ≡ Some v
found_before p us vs v h = find-append p us vs ∙ ap (λ (o : Option Var). option_or o (find p vs)) h

pub found_after : (p : Var → Bool) (us vs : List Var) → find p us ≡ None → find p (us ++ vs) ≡ find p vs
found_after p us vs h = find-append p us vs ∙ ap (λ (o : Option Var). option_or o (find p vs)) h

-- ---- by number

abbrev of_number : ℕ → Var
of_number x = record { 0 = x }

first_step : (p : Var → Bool) (a : ℕ) (u : Var) (rest : Option Var) (t : Bool) → p (of_number a) ≡ t → cond t (Some (of_number a)) rest ≡ Some u → (x : ℕ) → a ≤ x → x < u.0 → (rest ≡ Some u → a + 1 ≤ x → p (of_number x) ≡ false) → p (of_number x) ≡ false
first_step p a u rest true e h x low high later =
    let same : of_number a ≡ u = cc in
    let at : a ≡ u.0 = ap (λ (v : Var). v.0) same in
    absurd (omega arith)
first_step p a u rest false e h x low high later =
    elim (eq-or-lt_of_le low) [ inl same ↦ rw (← same) e | inr more ↦ later h (omega arith) ]

lowest_from : (p : Var → Bool) (a n : ℕ) (u : Var) → find p (map of_number (range_with_len a n)) ≡ Some u → (x : ℕ) → a ≤ x → x < u.0 → p (of_number x) ≡ false
lowest_from p a zero u h x low high = absurd (cc)
lowest_from p a (suc n) u h x low high =
    first_step p a u (find p (map of_number (range_with_len (a + 1) n))) (p (of_number a)) refl h x low high
    (λ later more. lowest_from p (a + 1) n u later x more high)

-- each variable of a lower number than the first that passes fails
pub lowest_by_number : (p : Var → Bool) (n : ℕ) (u : Var) → find p (by_number n) ≡ Some u → (x : ℕ) → x < u.0 → p (record { 0 = x }) ≡ false
lowest_by_number p n u h x high = lowest_from p 0 n u h x (omega arith) high
