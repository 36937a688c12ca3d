-- In an accepted log each best is less than the bests before it, so what follows under a bound follows under later ones.
use Rattle.std.proofs.Common.{◌≡◌, ℕ, zero, suc, ◌≤◌, Bool, true, false, ◌||◌, ◌&&◌, List, [], ◌∷◌, ◌++◌, refl, sym, ap, ◌∙◌, inl, inr, subst, arith, append_assoc, append-nil}
use Rattle.std.specs.Prelude.{ℤ, ◌<ℤ◌, ◌⊎◌, int_le, int_lt, slice_get, IsSomeAnd}
use Rattle.std.specs.declared.option.Option.{Option}
use Rattle.std.specs.declared.option.Option.TheVariants.{Some, None}
use Rattle.std.specs.Option.{option_map}
use Rattle.std.specs.List.{last_or}
use Rattle.std.proofs.lemmas.Bool.{false≢true, and_parts}
use Rattle.std.proofs.lemmas.Int.{ints}
use Rattle.cgm_atom.specs.declared.constraints.Clause.{Clause}
use Rattle.cgm_atom.specs.declared.entries.BadStep.TheVariants as fault
use Rattle.cgm_atom.specs.declared.entries.Entry.{Entry}
use Rattle.cgm_atom.specs.declared.entries.Entry.TheVariants.{Best, Lemma}
use Rattle.cgm_atom.specs.Acceptance.{IsAccepted, faults, first_fault}
use Rattle.cgm_atom.specs.Entailment.{Follows, IsUnderBound, best_values}
use Rattle.cgm_atom.specs.Instance.{Instance, fault_unless, first_some, vector}
use Rattle.cgm_atom.specs.Laws.{AreDescending, BestsDescend}
use Rattle.cgm_atom.specs.LogState.{LogState, last_best, state_of}
use Rattle.cgm_base.specs.Order.{IsLess}
use Rattle.cgm_atom.specs.Order.{IsBelow, is_below, is_less}
use Rattle.cgm_atom.proofs.StateLemmas.{IsAccepted-next, best_values-append, last_best_of_log, last_of_pushed}
use borrow.Author.Differences.{same_in}

-- ---- the order

less_than_less : (u v w : ℤ) (us vs ws : List ℤ) → ((u <ℤ v) ⊎ ((u ≡ v) × IsLess us vs)) → ((v <ℤ w) ⊎ ((v ≡ w) × IsLess vs ws)) → (IsLess us vs → IsLess vs ws → IsLess us ws) → (u <ℤ w) ⊎ ((u ≡ w) × IsLess us ws)
less_than_less u v w us vs ws (inl h) (inl k) rest = inl (omega (arith, ints))
less_than_less u v w us vs ws (inl h) (inr k) rest = inl (subst (λ (z : ℤ). u <ℤ z) k.0 h)
less_than_less u v w us vs ws (inr h) (inl k) rest = inl (subst (λ (z : ℤ). z <ℤ w) (sym h.0) k)
less_than_less u v w us vs ws (inr h) (inr k) rest = inr (h.0 ∙ k.0, rest h.1 k.1)

pub IsLess-trans : (us vs ws : List ℤ) → IsLess us vs → IsLess vs ws → IsLess us ws
IsLess-trans [] vs ws h k = absurd h
IsLess-trans (u ∷ us) [] ws h k = absurd h
IsLess-trans (u ∷ us) (v ∷ vs) [] h k = absurd k
IsLess-trans (u ∷ us) (v ∷ vs) (w ∷ ws) h k = less_than_less u v w us vs ws h k (IsLess-trans us vs ws)

less_by_cases : (u v : ℤ) (us vs : List ℤ) (t : Bool) → int_lt u v ≡ t → (t || (int_le u v && is_less us vs)) ≡ true → (is_less us vs ≡ true → IsLess us vs) → (u <ℤ v) ⊎ ((u ≡ v) × IsLess us vs)
less_by_cases u v us vs true e h rest = inl (omega (arith, ints))
less_by_cases u v us vs false e h rest =
    let parts = and_parts (int_le u v) (is_less us vs) h in
    let at_most : int_le u v ≡ true = parts.0 in
    inr (same_in u v (omega (arith, ints)), rest parts.1)

pub IsLess-from_test : (us vs : List ℤ) → is_less us vs ≡ true → IsLess us vs
IsLess-from_test [] vs h = absurd (false≢true h)
IsLess-from_test (u ∷ us) [] h = absurd (false≢true h)
IsLess-from_test (u ∷ us) (v ∷ vs) h = less_by_cases u v us vs (int_lt u v) refl h (IsLess-from_test us vs)

pub IsBelow-from_test : (us : List ℤ) (limit : Option (List ℤ)) → is_below us limit ≡ true → IsBelow us limit
IsBelow-from_test us None h = tt
IsBelow-from_test us (Some vs) h = IsLess-from_test us vs h

-- ---- the first fault

abbrev pub AreNone : {X : Type 0} → List (Option X) → Type 0
AreNone [] = Unit {0}
AreNone (o ∷ others) = (o ≡ None) × AreNone others

pub none_fails : {X : Type 0} (tests : List (Option X)) → first_some tests ≡ None → AreNone tests
none_fails [] h = tt
none_fails (None ∷ others) h = (refl, none_fails others h)
none_fails (Some x ∷ others) h = absurd (cc)

pub passes : {X : Type 0} (t : Bool) (x : X) → fault_unless t x ≡ None → t ≡ true
passes true x h = refl
passes false x h = absurd (cc)

-- ---- bests

accepted_best : (p : Instance) (s : LogState) (by : ℕ) (values : List ℤ) → first_fault p s (Best by values) ≡ None → IsBelow (vector p values) (option_map (vector p) (last_best s))
unfolding first_fault
accepted_best p s by values h =
    let fails : AreNone (faults p s (Best by values)) = none_fails (faults p s (Best by values)) h in
    IsBelow-from_test (vector p values) (option_map (vector p) (last_best s)) (passes _ fault.NotLess fails.1.1.0)

bests_descend : (p : Instance) (front log : List Entry) → IsAccepted p (front ++ log) → AreDescending p (last_or None (best_values front)) (best_values log)
bests_descend p front [] h = tt
bests_descend p front (Best by values ∷ log) h =
    let e : Entry = Best by values in
    let here = accepted_best p (state_of front) by values (IsAccepted-next p front e log h) in
    let rest = bests_descend p (front ++ e ∷ []) log (subst (λ (x : List Entry). IsAccepted p x) (sym (append_assoc front (e ∷ []) log)) h) in
    let last : last_or None (best_values (front ++ e ∷ [])) ≡ Some values =
    ap (last_or None) (best_values-append front (e ∷ [])) ∙ last_of_pushed None values (best_values front) in (
      subst (λ (o : Option (List ℤ)). IsBelow (vector p values) (option_map (vector p) o)) (last_best_of_log front) here,
      subst (λ (o : Option (List ℤ)). AreDescending p o (best_values log)) last rest,
    )
bests_descend p front (Lemma by clause hints bound ∷ log) h =
    let e : Entry = Lemma by clause hints bound in
    let rest = bests_descend p (front ++ e ∷ []) log (subst (λ (x : List Entry). IsAccepted p x) (sym (append_assoc front (e ∷ []) log)) h) in
    let same : best_values (front ++ e ∷ []) ≡ best_values front = best_values-append front (e ∷ []) ∙ append-nil (best_values front) in
    subst (λ (vs : List (List ℤ)). AreDescending p (last_or None vs) (best_values log)) same rest

pub all_bests_descend : BestsDescend
all_bests_descend p log h = bests_descend p [] log h

-- ---- later bounds

-- what is less than a later best is less than the first
less_than_first : (p : Instance) (v values : List ℤ) (others : List (List ℤ)) (i : ℕ) → AreDescending p (Some values) others → IsSomeAnd (slice_get others i) (λ w. IsLess v (vector p w)) → IsLess v (vector p values)
less_than_first p v values [] i d h = absurd h
less_than_first p v values (w ∷ others) zero d h = IsLess-trans v (vector p w) (vector p values) h d.0
less_than_first p v values (w ∷ others) (suc i) d h =
    IsLess-trans v (vector p w) (vector p values) (less_than_first p v w others i d.1 h) d.0

less_than_earlier : (p : Instance) (v : List ℤ) (limit : Option (List ℤ)) (bests : List (List ℤ)) (i j : ℕ) → i ≤ j → AreDescending p limit bests → IsSomeAnd (slice_get bests j) (λ w. IsLess v (vector p w)) → IsSomeAnd (slice_get bests i) (λ w. IsLess v (vector p w))
less_than_earlier p v limit [] i j le d h = absurd h
less_than_earlier p v limit (w ∷ bests) zero zero le d h = h
less_than_earlier p v limit (w ∷ bests) zero (suc j) le d h = less_than_first p v w bests j d.1 h
less_than_earlier p v limit (w ∷ bests) (suc i) zero le d h = absurd (omega arith)
less_than_earlier p v limit (w ∷ bests) (suc i) (suc j) le d h =
    less_than_earlier p v (Some w) bests i j (omega arith) d.1 h

pub under_earlier_bound : (p : Instance) (log : List Entry) (v : List ℤ) (bound later : ℕ) → IsAccepted p log → bound ≤ later → IsUnderBound p log later v → IsUnderBound p log bound v
under_earlier_bound p log v zero later h le k = tt
under_earlier_bound p log v (suc i) zero h le k = absurd (omega arith)
under_earlier_bound p log v (suc i) (suc j) h le k =
    less_than_earlier p v None (best_values log) i j (omega arith) (bests_descend p [] log h) k

pub follows_later : (p : Instance) (log : List Entry) (c : Clause) (bound later : ℕ) → IsAccepted p log → bound ≤ later → Follows p log bound c → Follows p log later c
unfolding Follows
follows_later p log c bound later h le f = λ values solution under.
    f values solution (under_earlier_bound p log (vector p values) bound later h le under)
