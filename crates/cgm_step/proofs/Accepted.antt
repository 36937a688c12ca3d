-- What the entries of an accepted log keep.
use Rattle.std.proofs.Common.{◌≡◌, ℕ, zero, suc, ◌+◌, ◌<◌, ◌^◌, Bool, true, false, cond, not, ◌&&◌, ◌==◌, nat_lt, List, [], ◌∷◌, length, refl, sym, subst, arith}
use Rattle.std.specs.Prelude.{ℤ, ◌≤ℤ◌, int_le, slice_get, if◌then◌else◌}
use Rattle.std.specs.declared.option.Option.{Option}
use Rattle.std.specs.declared.option.Option.TheVariants.{Some, None}
use Rattle.std.specs.List.{All, position_from}
use Rattle.std.specs.Option.{option_and_then, option_map}
use Rattle.std.proofs.lemmas.Bool.{and_parts, eqb-true, ltb-true, not-false}
use Rattle.std.proofs.lemmas.Int.{ints}
use Rattle.std.proofs.lemmas.Option.{same_Some}
use Rattle.std.proofs.lemmas.List.Elements.{All-nil, All-cons, All-weaker}
use Rattle.cgm_atom.specs.declared.constraints.Atom.{Atom}
use Rattle.cgm_atom.specs.declared.constraints.Clause.{Clause}
use Rattle.cgm_atom.specs.declared.constraints.Var.{Var}
use Rattle.cgm_atom.specs.declared.entries.Entry.{Entry}
use Rattle.cgm_atom.specs.declared.entries.Entry.TheVariants.{Best, Lemma}
use Rattle.cgm_atom.specs.declared.entries.Hint.{Hint}
use Rattle.cgm_atom.specs.declared.checks.Violated.TheVariants as violated
use Rattle.cgm_atom.specs.declared.entries.BadStep.TheVariants as fault
use Rattle.cgm_atom.specs.Acceptance.{IsAccepted, IsAcceptedAfter, IsAcceptedState, fault_of, faults, first_fault}
use Rattle.cgm_atom.specs.Bounds.{Bounds, lower_of, upper_of}
use Rattle.cgm_atom.specs.Instance.{Instance, fault_unless, first_some, first_violation, outside_from, var_count, violations}
use Rattle.cgm_atom.specs.ClauseAtoms.{AreKnown}
use Rattle.cgm_atom.specs.Limits.{AreValuesOf, IsBound, IsWellFormedProblem}
use Rattle.cgm_atom.specs.LogState.{LogState, best_at, empty_state, entry_values, item_at, lemma_clause, live_at, state_with, values_at_place}
use Rattle.cgm_atom.specs.Steps.{AreBounds}
use Rattle.cgm_atom.proofs.StateLemmas.{live_is_of_log}
use Rattle.cgm_atom.proofs.Tightening.{between}

accepted_after : (p : Instance) (s : LogState) (log : List Entry) (i : ℕ) (e : Entry) → IsAcceptedAfter p s log → slice_get log i ≡ Some e → (state : LogState) × (first_fault p state e ≡ None)
accepted_after p s [] i e h k = absurd (cc)
accepted_after p s (x ∷ log) zero e h k = (s, subst (λ (y : Entry). first_fault p s y ≡ None) (same_Some x e k) h.0)
accepted_after p s (x ∷ log) (suc i) e h k = accepted_after p (state_with s x) log i e h.1 k

accepted_at : (p : Instance) (log : List Entry) (i : ℕ) (e : Entry) → IsAccepted p log → slice_get log i ≡ Some e → (state : LogState) × (first_fault p state e ≡ None)
unfolding IsAccepted
accepted_at p log i e h k = accepted_after p empty_state log i e h k

-- none of the tests has a fault, where the first fault of all is none
abbrev pub AreNone : {X : Type 0} → List (Option X) → Type 0
AreNone [] = Unit {0}
AreNone (o ∷ others) = (o ≡ None) × AreNone others

none_of : {X : Type 0} (o : Option X) (others : List (Option X)) → (first_some others ≡ None → AreNone others) → first_some (o ∷ others) ≡ None → AreNone (o ∷ others)
none_of None others rest h = (refl, rest h)
none_of (Some x) others rest h = absurd (cc)

pub AreNone-from_first : {X : Type 0} (xs : List (Option X)) → first_some xs ≡ None → AreNone xs
AreNone-from_first [] h = tt
AreNone-from_first (o ∷ others) h = none_of o others (AreNone-from_first others) h

option_map-None : {X Y : Type 0} (f : X → Y) (o : Option X) → option_map f o ≡ None → o ≡ None
option_map-None f None h = refl
option_map-None f (Some x) h = absurd (cc)

cond-None : {X : Type 0} (t : Bool) (x : X) (o : Option X) → cond t (Some x) o ≡ None → (t ≡ false) × (o ≡ None)
cond-None true x o h = absurd (cc)
cond-None false x o h = (refl, h)

none_passes : {X : Type 0} (f : X → Bool) (i : ℕ) (xs : List X) → position_from f i xs ≡ None → All (λ x. f x ≡ false) xs
none_passes f i [] h = All-nil (λ x. f x ≡ false)
none_passes f i (x ∷ xs) h =
    let parts = cond-None (f x) i (position_from f (i + 1) xs) h in
    All-cons (λ y. f y ≡ false) x xs parts.0 (none_passes f (i + 1) xs parts.1)

pub AreKnown-from_none : (count : ℕ) (atoms : List Atom) → position_from (λ (a : Atom). not (nat_lt a.var.0 count)) 0 atoms ≡ None → AreKnown count atoms
AreKnown-from_none count atoms h =
    All-weaker (λ (a : Atom). not (nat_lt a.var.0 count) ≡ false) (λ (a : Atom). a.var.0 < count)
    (λ a k. ltb-true a.var.0 count (not-false (nat_lt a.var.0 count) k)) atoms
    (none_passes (λ (a : Atom). not (nat_lt a.var.0 count)) 0 atoms h)

lemma_fits : (p : Instance) (s : LogState) (by : ℕ) (clause : Clause) (hints : List Hint) (bound : ℕ) → first_fault p s (Lemma by clause hints bound) ≡ None → AreKnown (var_count p) clause.atoms
unfolding first_fault
lemma_fits p s by clause hints bound h =
    let none = AreNone-from_first (faults p s (Lemma by clause hints bound)) h in
    AreKnown-from_none (var_count p) clause.atoms
    (option_map-None (λ (i : ℕ). fault.Atom (i + 1)) (position_from (λ (a : Atom). not (nat_lt a.var.0 (var_count p))) 0 clause.atoms) none.1.0)

-- each live entry of an accepted state passed its tests
live_passes : (p : Instance) (s : LogState) (place : ℕ) (e : Entry) → IsAcceptedState p s → live_at s place ≡ Some e → (before : LogState) × (first_fault p before e ≡ None)
live_passes p s zero e h k = absurd (cc)
live_passes p s (suc i) e h k =
    accepted_at p h.0 i e h.1 (live_is_of_log h.0 (suc i) e (subst (λ (t : LogState). live_at t (suc i) ≡ Some e) h.2 k))

lemma_known : (p : Instance) (s : LogState) (place : ℕ) (o : Option Entry) (c : Clause) → IsAcceptedState p s → live_at s place ≡ o → option_and_then lemma_clause o ≡ Some c → AreKnown (var_count p) c.atoms
lemma_known p s place None c h k e = absurd (cc)
lemma_known p s place (Some (Best by values)) c h k e = absurd (cc)
lemma_known p s place (Some (Lemma by clause hints bound)) c h k e =
    let passed = live_passes p s place (Lemma by clause hints bound) h k in
    subst (λ (x : Clause). AreKnown (var_count p) x.atoms) (same_Some clause c e) (lemma_fits p passed.0 by clause hints bound passed.1)

-- the atoms of a live lemma have variables of the problem
pub lemma_atoms_known : (p : Instance) (s : LogState) (place : ℕ) (c : Clause) → IsAcceptedState p s → option_and_then lemma_clause (live_at s place) ≡ Some c → AreKnown (var_count p) c.atoms
lemma_atoms_known p s place c h e = lemma_known p s place (live_at s place) c h refl e

fault_unless-None : {X : Type 0} (t : Bool) (x : X) → fault_unless t x ≡ None → t ≡ true
fault_unless-None true x h = refl
fault_unless-None false x h = absurd (cc)

if-None : (t : Bool) (o : Option ℕ) (x : ℕ) → (if t then o else Some x) ≡ None → (t ≡ true) × (o ≡ None)
if-None true o x h = (refl, h)
if-None false o x h = absurd (cc)

int_le-true : (a b : ℤ) → int_le a b ≡ true → a ≤ℤ b
int_le-true a b h = grind (arith, ints)

within_sizes : (b : Bounds) (x : ℕ) (values : List ℤ) → AreBounds b → outside_from b x values ≡ None → All IsBound values
within_sizes b x [] sizes h = All-nil IsBound
within_sizes b x (v ∷ values) sizes h =
    let parts = if-None (int_le (lower_of b x) v && int_le v (upper_of b x)) (outside_from b (x + 1) values) x h in
    let both = and_parts (int_le (lower_of b x) v) (int_le v (upper_of b x)) parts.0 in
    All-cons IsBound v values
    (between (lower_of b x) v (upper_of b x) (10 ^ 15) (int_le-true (lower_of b x) v both.0) (int_le-true v (upper_of b x) both.1) (sizes x).0 (sizes x).1)
    (within_sizes b (x + 1) values sizes parts.1)

-- values that nothing keeps from being a solution are as many as the variables, and within the limit
pub AreValuesOf-from_none : (p : Instance) (values : List ℤ) → IsWellFormedProblem p → first_violation p values ≡ None → AreValuesOf p values
AreValuesOf-from_none p values wf h =
    let none = AreNone-from_first (violations p values) h in
    record {
      count = eqb-true (length values) (var_count p) (fault_unless-None (length values == var_count p) violated.Count none.0);
      sizes = within_sizes p.bounds 0 values wf.sizes (option_map-None violated.Bound (outside_from p.bounds 0 values) none.1.0);
    }

best_fits : (p : Instance) (s : LogState) (by : ℕ) (values : List ℤ) → IsWellFormedProblem p → first_fault p s (Best by values) ≡ None → AreValuesOf p values
unfolding first_fault
best_fits p s by values wf h =
    let none = AreNone-from_first (faults p s (Best by values)) h in
    AreValuesOf-from_none p values wf (option_map-None (fault_of (length values)) (first_violation p values) none.1.0)

values_fit : (p : Instance) (s : LogState) (place : ℕ) (o : Option Entry) (values : List ℤ) → IsWellFormedProblem p → IsAcceptedState p s → live_at s place ≡ o → option_and_then entry_values o ≡ Some values → AreValuesOf p values
values_fit p s place None values wf h k e = absurd (cc)
values_fit p s place (Some (Lemma by clause hints bound)) values wf h k e = absurd (cc)
values_fit p s place (Some (Best by vs)) values wf h k e =
    let passed = live_passes p s place (Best by vs) h k in
    subst (λ (x : List ℤ). AreValuesOf p x) (same_Some vs values e) (best_fits p passed.0 by vs wf passed.1)

best_fits_at : (p : Instance) (s : LogState) (o : Option ℕ) (values : List ℤ) → IsWellFormedProblem p → IsAcceptedState p s → option_and_then (values_at_place s) o ≡ Some values → AreValuesOf p values
best_fits_at p s None values wf h e = absurd (cc)
best_fits_at p s (Some place) values wf h e = values_fit p s place (live_at s place) values wf h refl e

-- the values of a live best are those of the problem's variables
pub best_values_fit : (p : Instance) (s : LogState) (ordinal : ℕ) (values : List ℤ) → IsWellFormedProblem p → IsAcceptedState p s → best_at s ordinal ≡ Some values → AreValuesOf p values
best_values_fit p s ordinal values wf h e = best_fits_at p s (item_at s.bests ordinal) values wf h e

-- the objectives have such values
pub objectives_known : (p : Instance) (os : List Var) (values : List ℤ) → os ≡ p.objectives → IsWellFormedProblem p → AreValuesOf p values → All (λ v. v.0 < length values) os
objectives_known p os values e wf fit =
    let known : All (λ (v : Var). v.0 < var_count p) os = subst (λ (xs : List Var). All (λ (v : Var). v.0 < var_count p) xs) (sym e) wf.objectives in
    subst (λ (n : ℕ). All (λ (v : Var). v.0 < n) os) (sym fit.count) known
