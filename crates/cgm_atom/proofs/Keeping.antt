-- Narrowing keeps the values of the box that make the atom or clause true, or meet the row.
use Rattle.std.proofs.Common.{◌≡◌, ℕ, zero, suc, ◌+◌, ◌*◌, ◌/◌, ◌≤◌, Bool, true, false, not, cond, ◌||◌, List, [], ◌∷◌, refl, sym, ◌∙◌, arith}
use Rattle.std.specs.Prelude.{ℤ, pos, negsuc, ◌+ℤ◌, ◌-ℤ◌, ◌*ℤ◌, ◌≤ℤ◌, int_le, int_lt, unsigned_abs, slice_set, IsTrue, if◌then◌else◌}
use Rattle.std.specs.declared.option.Option.{Option}
use Rattle.std.specs.declared.option.Option.TheVariants.{Some, None}
use Rattle.std.specs.Int.{int_max, int_min}
use Rattle.std.specs.List.{All, filter, list_any}
use Rattle.std.proofs.lemmas.Bool.{false≢true}
use Rattle.std.proofs.lemmas.Int.{ints, clamps}
use Rattle.std.proofs.lemmas.List.Elements.{All-head, All-tail}
use Rattle.cgm_atom.specs.declared.constraints.Atom.{Atom}
use Rattle.cgm_atom.specs.declared.constraints.Clause.{Clause}
use Rattle.cgm_atom.specs.declared.constraints.Row.{Row}
use Rattle.cgm_atom.specs.declared.constraints.Var.{Var}
use Rattle.cgm_atom.specs.Atoms.{activity, atom_true, clause_true, guard_true, negation, row_true}
use Rattle.cgm_atom.specs.Bounds.{Bounds, IsWithin, lower_of, upper_of, value_of}
use Rattle.cgm_atom.specs.Laws.{IsLeft}
use Rattle.cgm_atom.specs.Narrowing.{all_assumed, greatest_activity, greatest_term, is_claimed_in, is_false_in, is_true_in, left_by_atoms, left_by_clause, left_by_met, left_by_row, left_by_unmet, made_true, raised, reduced, tightened_by_term, tightened_by_terms}
use Rattle.cgm_atom.proofs.SignedSteps.{le_from_true, le_is_false, le_is_true, lt_is_false, scaled_up, scaled_down, quotient_at_most, sum_at_most}
use borrow.Author.Differences.{up, down}

-- ---- one bound set

-- what holds of the number at each place holds still where one that has it too is set
pub each_after_set : (P : ℕ → ℤ → Type 0) (xs : List ℤ) (x : ℕ) (z : ℤ) → ((y : ℕ) → P y (value_of xs y)) → P x z → (y : ℕ) → P y (value_of (slice_set xs x z) y)
each_after_set P [] x z each here y = each y
each_after_set P (a ∷ xs) zero z each here zero = here
each_after_set P (a ∷ xs) zero z each here (suc y) = each (suc y)
each_after_set P (a ∷ xs) (suc x) z each here zero = each zero
each_after_set P (a ∷ xs) (suc x) z each here (suc y) =
    each_after_set (λ (n : ℕ) (v : ℤ). P (suc n) v) xs x z (λ n. each (suc n)) here y

at_least_max : (lo k v : ℤ) → lo ≤ℤ v → k ≤ℤ v → int_max lo k ≤ℤ v
at_least_max lo k v low h = omega (arith, ints, clamps)

at_most_min : (hi k v : ℤ) → v ≤ℤ hi → v ≤ℤ k → v ≤ℤ int_min hi k
at_most_min hi k v high h = omega (arith, ints, clamps)

within_one_made_true : (b : Bounds) (values : List ℤ) (x : ℕ) (k : ℤ) (t : Bool) → IsWithin b values → cond t (int_le k (value_of values x)) (int_le (value_of values x) k) ≡ true → IsWithin (cond t (raised b x k) (reduced b x k)) values
within_one_made_true b values x k true within h = λ y.
    (each_after_set (λ (n : ℕ) (v : ℤ). v ≤ℤ value_of values n) b.lower x (int_max (lower_of b x) k) (λ n. (within n).0) (at_least_max _ _ _ (within x).0 (omega (arith, ints))) y, (within y).1)
within_one_made_true b values x k false within h = λ y.
    ((within y).0, each_after_set (λ (n : ℕ) (v : ℤ). value_of values n ≤ℤ v) b.upper x (int_min (upper_of b x) k) (λ n. (within n).1) (at_most_min _ _ _ (within x).1 (omega (arith, ints))) y)

-- values of the box that make the atom true are left where it is made true
pub within_made_true : (b : Bounds) (a : Atom) (values : List ℤ) → IsWithin b values → IsTrue (atom_true values a) → IsWithin (made_true b a) values
within_made_true b a values within h = within_one_made_true b values a.var.0 a.k a.at_least within h

-- an atom that values of the box make true is not false in it
not_false_cases : (lo hi v k : ℤ) (t : Bool) → lo ≤ℤ v → v ≤ℤ hi → cond t (int_le k v) (int_le v k) ≡ true → cond t (int_lt hi k) (int_lt k lo) ≡ false
not_false_cases lo hi v k true low high h = lt_is_false hi k (omega (arith, ints))
not_false_cases lo hi v k false low high h = lt_is_false k lo (omega (arith, ints))

pub not_false_in : (b : Bounds) (a : Atom) (values : List ℤ) → IsWithin b values → IsTrue (atom_true values a) → is_false_in b a ≡ false
not_false_in b a values within h =
    not_false_cases _ _ (value_of values a.var.0) a.k a.at_least (within a.var.0).0 (within a.var.0).1 h

-- one that is true in the box is made true by its values
true_cases : (lo hi v k : ℤ) (t : Bool) → lo ≤ℤ v → v ≤ℤ hi → cond t (int_le k lo) (int_le hi k) ≡ true → cond t (int_le k v) (int_le v k) ≡ true
true_cases lo hi v k true low high h = le_is_true k v (omega (arith, ints))
true_cases lo hi v k false low high h = le_is_true v k (omega (arith, ints))

pub true_by_box : (b : Bounds) (a : Atom) (values : List ℤ) → IsWithin b values → is_true_in b a ≡ true → IsTrue (atom_true values a)
true_by_box b a values within h =
    true_cases (lower_of b a.var.0) (upper_of b a.var.0) (value_of values a.var.0) a.k a.at_least (within a.var.0).0 (within a.var.0).1 h

negation_cases : (v k : ℤ) (t : Bool) → cond t (int_le k v) (int_le v k) ≡ false → cond (not t) (int_le (cond t (k -ℤ pos 1) (k +ℤ pos 1)) v) (int_le v (cond t (k -ℤ pos 1) (k +ℤ pos 1))) ≡ true
negation_cases v k true h = le_is_true v (k -ℤ pos 1) (omega (arith, ints))
negation_cases v k false h = le_is_true (k +ℤ pos 1) v (omega (arith, ints))

-- an atom or its negation is true
pub negation_true : (values : List ℤ) (a : Atom) → atom_true values a ≡ false → IsTrue (atom_true values (negation a))
negation_true values a h = negation_cases (value_of values a.var.0) a.k a.at_least h

-- ---- atoms in their order

within_assumed_step : (b : Bounds) (a : Atom) (atoms : List Atom) (values : List ℤ) (t : Bool) → is_false_in b a ≡ t → t ≡ false → IsLeft (all_assumed (made_true b a) atoms) values → IsLeft (if t then None else all_assumed (made_true b a) atoms) values
within_assumed_step b a atoms values true e h left = absurd (false≢true (sym h))
within_assumed_step b a atoms values false e h left = left

pub within_assumed : (b : Bounds) (atoms : List Atom) (values : List ℤ) → IsWithin b values → All (λ a. IsTrue (atom_true values a)) atoms → IsLeft (all_assumed b atoms) values
within_assumed b [] values within h = within
within_assumed b (a ∷ atoms) values within h =
    let here = All-head (λ (x : Atom). IsTrue (atom_true values x)) a atoms h in
    let rest = within_assumed (made_true b a) atoms values (within_made_true b a values within here) (All-tail (λ (x : Atom). IsTrue (atom_true values x)) a atoms h) in
    within_assumed_step b a atoms values (is_false_in b a) refl (not_false_in b a values within here) rest

-- ---- a clause

any_kept_step : (test is_gone : Atom → Bool) (a : Atom) (atoms kept : List Atom) (t g : Bool) → test a ≡ t → (t ≡ true → g ≡ false) → (list_any test atoms ≡ true → list_any test kept ≡ true) → (t || list_any test atoms) ≡ true → list_any test (cond (not g) (a ∷ kept) kept) ≡ true
any_kept_step test is_gone a atoms kept true true e stays rest h = absurd (false≢true (sym (stays refl)))
any_kept_step test is_gone a atoms kept true false e stays rest h = rw e refl
any_kept_step test is_gone a atoms kept false true e stays rest h = rest h
any_kept_step test is_gone a atoms kept false false e stays rest h = rw e (rest h)

-- where one of the atoms is true, one of those that aren't gone is
any_kept : (test is_gone : Atom → Bool) → ((a : Atom) → test a ≡ true → is_gone a ≡ false) → (atoms : List Atom) → list_any test atoms ≡ true → list_any test (filter (λ a. not (is_gone a)) atoms) ≡ true
any_kept test is_gone stays [] h = h
any_kept test is_gone stays (a ∷ atoms) h =
    any_kept_step test is_gone a atoms (filter (λ x. not (is_gone x)) atoms) (test a) (is_gone a) refl (stays a) (any_kept test is_gone stays atoms) h

only_one : (t : Bool) → (t || false) ≡ true → t ≡ true
only_one true h = refl
only_one false h = h

within_left_by_atoms : (b : Bounds) (atoms : List Atom) (values : List ℤ) → IsWithin b values → list_any (atom_true values) atoms ≡ true → IsLeft (left_by_atoms b atoms) values
within_left_by_atoms b [] values within h = absurd (false≢true h)
within_left_by_atoms b (a ∷ []) values within h = within_made_true b a values within (only_one (atom_true values a) h)
within_left_by_atoms b (a ∷ a' ∷ atoms) values within h = within

pub within_left_by_clause : (b : Bounds) (c : Clause) (values : List ℤ) → IsWithin b values → IsTrue (clause_true values c) → IsLeft (left_by_clause b c) values
unfolding left_by_clause
within_left_by_clause b c values within h =
    within_left_by_atoms b (filter (λ a. not (is_false_in b a)) c.atoms) values within
    (any_kept (atom_true values) (is_false_in b) (λ a. not_false_in b a values within) c.atoms h)

-- ---- a row

term_cases : (c v lo hi : ℤ) (t : Bool) → lo ≤ℤ v → v ≤ℤ hi → int_lt c (pos 0) ≡ t → (c *ℤ v) ≤ℤ cond t (c *ℤ lo) (c *ℤ hi)
term_cases (pos n) v lo hi true low high e = absurd (omega (arith, ints))
term_cases (negsuc n) v lo hi true low high e = scaled_down n lo v low
term_cases (pos n) v lo hi false low high e = scaled_up n v hi high
term_cases (negsuc n) v lo hi false low high e = absurd (omega (arith, ints))

positive_cases : (n : ℕ) (x y : ℤ) (t : Bool) → int_lt (pos n) (pos 0) ≡ t → cond t x y ≡ y
positive_cases n x y true e = absurd (omega (arith, ints))
positive_cases n x y false e = refl

-- with a coefficient that isn't negative a term is greatest at the greatest value
pub greatest_term-pos : (b : Bounds) (n x : ℕ) → greatest_term b (pos n) x ≡ pos n *ℤ upper_of b x
greatest_term-pos b n x = positive_cases n (pos n *ℤ lower_of b x) (pos n *ℤ upper_of b x) (int_lt (pos n) (pos 0)) refl

-- a term is at most its greatest value
pub term_at_most : (b : Bounds) (values : List ℤ) (c : ℤ) (x : ℕ) → IsWithin b values → (c *ℤ value_of values x) ≤ℤ greatest_term b c x
term_at_most b values c x within =
    term_cases c (value_of values x) (lower_of b x) (upper_of b x) (int_lt c (pos 0)) (within x).0 (within x).1 refl

pub activity_at_most : (b : Bounds) (values : List ℤ) (terms : List (ℤ × Var)) → IsWithin b values → activity values terms ≤ℤ greatest_activity b terms
activity_at_most b values [] within = omega (arith, ints)
activity_at_most b values (t ∷ terms) within =
    let first : (t.0 *ℤ value_of values t.1.0) ≤ℤ greatest_term b t.0 t.1.0 = term_at_most b values t.0 t.1.0 within in
    let rest : activity values terms ≤ℤ greatest_activity b terms = activity_at_most b values terms within in
    sum_at_most (t.0 *ℤ value_of values t.1.0) (greatest_term b t.0 t.1.0) (activity values terms) (greatest_activity b terms) first rest

-- the bound that a term leaves its variable, where the term is at most `room` below its greatest value
above_quotient : (n : ℕ) (hi v : ℤ) (room : ℕ) → (pos (suc n) *ℤ hi) ≤ℤ ((pos (suc n) *ℤ v) +ℤ pos room) → (hi -ℤ pos (room / suc n)) ≤ℤ v
above_quotient n hi v room h =
    let scaled : suc n * (up hi + down v) + 0 ≤ suc n * (up v + down hi) + room = omega (arith, ints) in
    let bound : (up hi + down v) + 0 / suc n ≤ (up v + down hi) + room / suc n = quotient_at_most n (up hi + down v) (up v + down hi) 0 room scaled in
    omega (arith, ints)

below_quotient : (n : ℕ) (lo v : ℤ) (room : ℕ) → (negsuc n *ℤ lo) ≤ℤ ((negsuc n *ℤ v) +ℤ pos room) → v ≤ℤ (lo +ℤ pos (room / suc n))
below_quotient n lo v room h =
    let scaled : suc n * (up v + down lo) + 0 ≤ suc n * (up lo + down v) + room = omega (arith, ints) in
    let bound : (up v + down lo) + 0 / suc n ≤ (up lo + down v) + room / suc n = quotient_at_most n (up v + down lo) (up lo + down v) 0 room scaled in
    omega (arith, ints)

-- values at which the term is at most `room` below its greatest value in the old box
within_tightened_by_term : (old : Bounds) (values : List ℤ) (room : ℕ) (c : ℤ) (x : Var) (b : Bounds) → greatest_term old c x.0 ≤ℤ ((c *ℤ value_of values x.0) +ℤ pos room) → IsWithin b values → IsWithin (tightened_by_term old room c x b) values
within_tightened_by_term old values room (pos zero) x b h within = within
within_tightened_by_term old values room (pos (suc n)) x b h within =
    within_made_true b (record { var = x; at_least = true; k = upper_of old x.0 -ℤ pos (room / suc n) }) values within
    (le_is_true _ _ (above_quotient n (upper_of old x.0) (value_of values x.0) room (rw greatest_term-pos at h)))
within_tightened_by_term old values room (negsuc n) x b h within =
    within_made_true b (record { var = x; at_least = false; k = lower_of old x.0 +ℤ pos (room / suc n) }) values within
    (le_is_true _ _ (below_quotient n (lower_of old x.0) (value_of values x.0) room h))

-- the room of a sum is room for its first part, and for the rest
room_for_first : (x y u v r : ℤ) → u ≤ℤ v → (y +ℤ v) ≤ℤ ((x +ℤ u) +ℤ r) → y ≤ℤ (x +ℤ r)
room_for_first x y u v r k h = omega (arith, ints)

room_for_rest : (x y u v r : ℤ) → x ≤ℤ y → (y +ℤ v) ≤ℤ ((x +ℤ u) +ℤ r) → v ≤ℤ (u +ℤ r)
room_for_rest x y u v r k h = omega (arith, ints)

within_tightened_by_terms : (old : Bounds) (values : List ℤ) (room : ℕ) (terms : List (ℤ × Var)) (b : Bounds) → IsWithin old values → greatest_activity old terms ≤ℤ (activity values terms +ℤ pos room) → IsWithin b values → IsWithin (tightened_by_terms old room terms b) values
within_tightened_by_terms old values room [] b inside h within = within
within_tightened_by_terms old values room (t ∷ terms) b inside h within =
    let x : ℤ = t.0 *ℤ value_of values t.1.0 in
    let first : greatest_term old t.0 t.1.0 ≤ℤ (x +ℤ pos room) = room_for_first x (greatest_term old t.0 t.1.0) (activity values terms) (greatest_activity old terms) (pos room) (activity_at_most old values terms inside) h in
    let rest : greatest_activity old terms ≤ℤ (activity values terms +ℤ pos room) = room_for_rest x (greatest_term old t.0 t.1.0) (activity values terms) (greatest_activity old terms) (pos room) (term_at_most old values t.0 t.1.0 inside) h in
    within_tightened_by_terms old values room terms (tightened_by_term old room t.0 t.1 b) inside rest
    (within_tightened_by_term old values room t.0 t.1 b first within)

room_of : (greatest least sum : ℤ) → int_lt greatest least ≡ false → least ≤ℤ sum → greatest ≤ℤ (sum +ℤ pos (unsigned_abs (greatest -ℤ least)))
room_of greatest least sum h k = omega (arith, ints)

within_met_cases : (b : Bounds) (r : Row) (values : List ℤ) (t : Bool) → IsWithin b values → (t ≡ true → r.least ≤ℤ activity values r.terms) → int_lt (greatest_activity b r.terms) r.least ≡ false → IsWithin (if t then tightened_by_terms b (unsigned_abs (greatest_activity b r.terms -ℤ r.least)) r.terms b else b) values
within_met_cases b r values true within met h =
    within_tightened_by_terms b values _ r.terms b within (room_of (greatest_activity b r.terms) r.least (activity values r.terms) h (met refl)) within
within_met_cases b r values false within met h = within

-- a row that is claimed in the box is claimed of its values
claimed_by_box : (b : Bounds) (g : Option Atom) (values : List ℤ) → IsWithin b values → is_claimed_in b g ≡ true → guard_true values g ≡ true
claimed_by_box b None values within h = refl
claimed_by_box b (Some g) values within h = true_by_box b g values within h

met_where_claimed : (t s : Bool) → (not t || s) ≡ true → t ≡ true → s ≡ true
met_where_claimed true s h e = h
met_where_claimed false s h e = absurd (false≢true e)

unmet_where_false : (t s : Bool) → (not t || s) ≡ true → s ≡ false → t ≡ false
unmet_where_false true s h e = absurd (false≢true (sym e ∙ h))
unmet_where_false false s h e = refl

within_left_by_unmet_cases : (b : Bounds) (g : Atom) (values : List ℤ) (t : Bool) → IsWithin b values → is_true_in b g ≡ t → atom_true values g ≡ false → IsLeft (if t then None else Some (made_true b (negation g))) values
within_left_by_unmet_cases b g values true within e h = absurd (false≢true (sym h ∙ true_by_box b g values within e))
within_left_by_unmet_cases b g values false within e h = within_made_true b (negation g) values within (negation_true values g h)

within_left_by_unmet : (b : Bounds) (g : Option Atom) (values : List ℤ) → IsWithin b values → guard_true values g ≡ false → IsLeft (left_by_unmet b g) values
within_left_by_unmet b None values within h = absurd (false≢true (sym h))
within_left_by_unmet b (Some g) values within h = within_left_by_unmet_cases b g values (is_true_in b g) within refl h

not_met : (sum greatest least : ℤ) → sum ≤ℤ greatest → int_lt greatest least ≡ true → int_le least sum ≡ false
not_met sum greatest least h k = le_is_false least sum (omega (arith, ints))

within_left_by_row_cases : (b : Bounds) (r : Row) (values : List ℤ) (t : Bool) → IsWithin b values → IsTrue (row_true values r) → int_lt (greatest_activity b r.terms) r.least ≡ t → IsLeft (if t then left_by_unmet b r.guard else Some (left_by_met b r)) values
within_left_by_row_cases b r values true within h e =
    within_left_by_unmet b r.guard values within
    (unmet_where_false _ (int_le r.least (activity values r.terms)) h (not_met _ _ _ (activity_at_most b values r.terms within) e))
within_left_by_row_cases b r values false within h e =
    within_met_cases b r values (is_claimed_in b r.guard) within
    (λ claimed. le_from_true _ _ (met_where_claimed (guard_true values r.guard) _ h (claimed_by_box b r.guard values within claimed))) e

pub within_left_by_row : (b : Bounds) (r : Row) (values : List ℤ) → IsWithin b values → IsTrue (row_true values r) → IsLeft (left_by_row b r) values
unfolding left_by_row
within_left_by_row b r values within h =
    within_left_by_row_cases b r values (int_lt (greatest_activity b r.terms) r.least) within h refl
