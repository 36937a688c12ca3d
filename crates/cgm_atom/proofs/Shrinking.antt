-- Narrowing gives a smaller box, and of a smaller box a smaller one or conflict.
use Rattle.std.proofs.Common.{◌≡◌, ℕ, zero, suc, ◌+◌, ◌*◌, ◌/◌, ◌≤◌, Bool, true, false, not, cond, List, [], ◌∷◌, length, refl, sym, ◌∙◌, ◌⊎◌, inl, inr, subst, arith}
use Rattle.std.specs.Prelude.{ℤ, pos, negsuc, ◌+ℤ◌, ◌-ℤ◌, ◌*ℤ◌, ◌≤ℤ◌, int_le, int_lt, unsigned_abs, slice_set, if◌then◌else◌}
use Rattle.std.specs.declared.option.Option.{Option}
use Rattle.std.specs.declared.option.Option.TheVariants.{Some, None}
use Rattle.std.specs.Int.{int_max, int_min}
use Rattle.std.specs.List.{filter}
use Rattle.std.specs.Option.{option_and_then}
use Rattle.std.proofs.lemmas.Bool.{false≢true}
use Rattle.std.proofs.lemmas.Int.{ints, clamps}
use Rattle.std.proofs.lemmas.List.{length-set}
use Rattle.cgm_atom.specs.declared.constraints.Atom.{Atom}
use Rattle.cgm_atom.specs.declared.constraints.Clause.{Clause}
use Rattle.cgm_atom.specs.declared.constraints.Row.{Row}
use Rattle.cgm_atom.specs.declared.constraints.Var.{Var}
use Rattle.cgm_atom.specs.declared.entries.Hint.{Hint}
use Rattle.cgm_atom.specs.Atoms.{negation}
use Rattle.cgm_atom.specs.Bounds.{Bounds, lower_of, upper_of, value_of}
use Rattle.cgm_atom.specs.Instance.{Instance}
use Rattle.cgm_atom.specs.Laws.{IsLeftSmaller, IsSmaller}
use Rattle.cgm_atom.specs.LogState.{LogState, all_narrowed, named, narrowed}
use Rattle.cgm_atom.specs.Constraints.{Constraint, of_clause, of_row, left_by, left_by_named}
use Rattle.cgm_atom.specs.Narrowing.{all_assumed, greatest_activity, greatest_term, is_claimed_in, is_false_in, is_true_in, left_by_atoms, left_by_clause, left_by_met, left_by_row, left_by_unmet, made_true, raised, reduced, tightened_by_term, tightened_by_terms}
use Rattle.cgm_atom.proofs.Keeping.{each_after_set, greatest_term-pos}
use Rattle.cgm_atom.proofs.SignedSteps.{le_is_true, lt_is_true, quotient_at_most, scaled_up, scaled_down, sum_at_most, ≤ℤ_refl, ≤ℤ_trans}
use borrow.Author.Differences.{up, down}

-- ---- the order of boxes

-- a box is smaller than itself, and than each that is larger than a larger one
pub IsSmaller-same : (b : Bounds) → IsSmaller b b
IsSmaller-same b = record {
  lower_count = refl;
  upper_count = refl;
  inside = λ x. (≤ℤ_refl (lower_of b x), ≤ℤ_refl (upper_of b x));
}

pub IsSmaller-trans : (inner middle outer : Bounds) → IsSmaller inner middle → IsSmaller middle outer → IsSmaller inner outer
IsSmaller-trans inner middle outer h k = record {
  lower_count = h.lower_count ∙ k.lower_count;
  upper_count = h.upper_count ∙ k.upper_count;
  inside = λ x. (≤ℤ_trans _ _ _ (k.inside x).0 (h.inside x).0, ≤ℤ_trans _ _ _ (h.inside x).1 (k.inside x).1);
}

left_smaller_than_outer : (left : Option Bounds) (inner outer : Bounds) → IsLeftSmaller left (Some inner) → IsSmaller inner outer → IsLeftSmaller left (Some outer)
left_smaller_than_outer None inner outer h k = tt
left_smaller_than_outer (Some b) inner outer h k = IsSmaller-trans b inner outer h k

-- ---- an atom made true

-- what holds of the two numbers at each place holds still where two that have it too are set
each_after_both_set : (P : ℤ → ℤ → Type 0) (us vs : List ℤ) (x : ℕ) (z w : ℤ) → length us ≡ length vs → ((y : ℕ) → P (value_of us y) (value_of vs y)) → P z w → (y : ℕ) → P (value_of (slice_set us x z) y) (value_of (slice_set vs x w) y)
each_after_both_set P [] [] x z w e each here y = each y
each_after_both_set P [] (v ∷ vs) x z w e each here y = absurd (omega arith)
each_after_both_set P (u ∷ us) [] x z w e each here y = absurd (omega arith)
each_after_both_set P (u ∷ us) (v ∷ vs) zero z w e each here zero = here
each_after_both_set P (u ∷ us) (v ∷ vs) zero z w e each here (suc y) = each (suc y)
each_after_both_set P (u ∷ us) (v ∷ vs) (suc x) z w e each here zero = each zero
each_after_both_set P (u ∷ us) (v ∷ vs) (suc x) z w e each here (suc y) =
    each_after_both_set P us vs x z w (omega arith) (λ k. each (suc k)) here y

greater_max : (lo lo' k k' : ℤ) → lo ≤ℤ lo' → k ≤ℤ k' → int_max lo k ≤ℤ int_max lo' k'
greater_max lo lo' k k' h g = omega (arith, ints, clamps)

lesser_min : (hi hi' k k' : ℤ) → hi' ≤ℤ hi → k' ≤ℤ k → int_min hi' k' ≤ℤ int_min hi k
lesser_min hi hi' k k' h g = omega (arith, ints, clamps)

-- raising a bound gives of a smaller box a smaller one, the more so where it is raised higher
pub raised_smaller : (inner outer : Bounds) (x : ℕ) (k' k : ℤ) → IsSmaller inner outer → k ≤ℤ k' → IsSmaller (raised inner x k') (raised outer x k)
raised_smaller inner outer x k' k h le = record {
  lower_count = length-set inner.lower x _ ∙ h.lower_count ∙ sym (length-set outer.lower x _);
  upper_count = h.upper_count;
  inside = λ y. (each_after_both_set (λ (v u : ℤ). u ≤ℤ v) inner.lower outer.lower x (int_max (lower_of inner x) k') (int_max (lower_of outer x) k) h.lower_count (λ n. (h.inside n).0) (greater_max _ _ _ _ (h.inside x).0 le) y, (h.inside y).1);
}

-- so does reducing one
pub reduced_smaller : (inner outer : Bounds) (x : ℕ) (k' k : ℤ) → IsSmaller inner outer → k' ≤ℤ k → IsSmaller (reduced inner x k') (reduced outer x k)
reduced_smaller inner outer x k' k h le = record {
  lower_count = h.lower_count;
  upper_count = length-set inner.upper x _ ∙ h.upper_count ∙ sym (length-set outer.upper x _);
  inside = λ y. ((h.inside y).0, each_after_both_set (λ (v u : ℤ). v ≤ℤ u) inner.upper outer.upper x (int_min (upper_of inner x) k') (int_min (upper_of outer x) k) h.upper_count (λ n. (h.inside n).1) (lesser_min _ _ _ _ (h.inside x).1 le) y);
}

made_true_cases : (inner outer : Bounds) (x : ℕ) (k : ℤ) (t : Bool) → IsSmaller inner outer → IsSmaller (cond t (raised inner x k) (reduced inner x k)) (cond t (raised outer x k) (reduced outer x k))
made_true_cases inner outer x k true h = raised_smaller inner outer x k k h (≤ℤ_refl k)
made_true_cases inner outer x k false h = reduced_smaller inner outer x k k h (≤ℤ_refl k)

-- an atom that is made true leaves of a smaller box a smaller one
pub made_true_smaller : (inner outer : Bounds) (a : Atom) → IsSmaller inner outer → IsSmaller (made_true inner a) (made_true outer a)
made_true_smaller inner outer a h = made_true_cases inner outer a.var.0 a.k a.at_least h

max_above : (lo k : ℤ) → lo ≤ℤ int_max lo k
max_above lo k = omega (arith, ints, clamps)

min_below : (hi k : ℤ) → int_min hi k ≤ℤ hi
min_below hi k = omega (arith, ints, clamps)

shrinks_cases : (b : Bounds) (x : ℕ) (k : ℤ) (t : Bool) → IsSmaller (cond t (raised b x k) (reduced b x k)) b
shrinks_cases b x k true = record {
  lower_count = length-set b.lower x _;
  upper_count = refl;
  inside = λ y. (each_after_set (λ (n : ℕ) (v : ℤ). lower_of b n ≤ℤ v) b.lower x (int_max (lower_of b x) k) (λ n. ≤ℤ_refl (lower_of b n)) (max_above (lower_of b x) k) y, ≤ℤ_refl (upper_of b y));
}
shrinks_cases b x k false = record {
  lower_count = refl;
  upper_count = length-set b.upper x _;
  inside = λ y. (≤ℤ_refl (lower_of b y), each_after_set (λ (n : ℕ) (v : ℤ). v ≤ℤ upper_of b n) b.upper x (int_min (upper_of b x) k) (λ n. ≤ℤ_refl (upper_of b n)) (min_below (upper_of b x) k) y);
}

-- and of each box a smaller one
pub made_true_shrinks : (b : Bounds) (a : Atom) → IsSmaller (made_true b a) b
made_true_shrinks b a = shrinks_cases b a.var.0 a.k a.at_least

-- ---- atoms that are false or true in a box are so in a smaller one

false_in_cases : (lo hi lo' hi' k : ℤ) (t : Bool) → lo ≤ℤ lo' → hi' ≤ℤ hi → cond t (int_lt hi k) (int_lt k lo) ≡ true → cond t (int_lt hi' k) (int_lt k lo') ≡ true
false_in_cases lo hi lo' hi' k true low high h = lt_is_true hi' k (omega (arith, ints))
false_in_cases lo hi lo' hi' k false low high h = lt_is_true k lo' (omega (arith, ints))

-- an atom that is false in a box is false in a smaller one
pub false_in_smaller : (inner outer : Bounds) (a : Atom) → IsSmaller inner outer → is_false_in outer a ≡ true → is_false_in inner a ≡ true
false_in_smaller inner outer a h e =
    false_in_cases (lower_of outer a.var.0) (upper_of outer a.var.0) (lower_of inner a.var.0) (upper_of inner a.var.0) a.k a.at_least (h.inside a.var.0).0 (h.inside a.var.0).1 e

true_in_cases : (lo hi lo' hi' k : ℤ) (t : Bool) → lo ≤ℤ lo' → hi' ≤ℤ hi → cond t (int_le k lo) (int_le hi k) ≡ true → cond t (int_le k lo') (int_le hi' k) ≡ true
true_in_cases lo hi lo' hi' k true low high h = le_is_true k lo' (omega (arith, ints))
true_in_cases lo hi lo' hi' k false low high h = le_is_true hi' k (omega (arith, ints))

-- an atom that is true in a box is true in a smaller one
pub true_in_smaller : (inner outer : Bounds) (a : Atom) → IsSmaller inner outer → is_true_in outer a ≡ true → is_true_in inner a ≡ true
true_in_smaller inner outer a h e =
    true_in_cases (lower_of outer a.var.0) (upper_of outer a.var.0) (lower_of inner a.var.0) (upper_of inner a.var.0) a.k a.at_least (h.inside a.var.0).0 (h.inside a.var.0).1 e

-- ---- atoms in their order

assumed_cases : (inner outer : Option Bounds) (s t : Bool) → (t ≡ true → s ≡ true) → IsLeftSmaller inner outer → IsLeftSmaller (if s then None else inner) (if t then None else outer)
assumed_cases inner outer true t h rest = tt
assumed_cases inner outer false true h rest = absurd (false≢true (h refl))
assumed_cases inner outer false false h rest = rest

-- atoms that are assumed in their order leave of a smaller box a smaller one or conflict
pub assumed_smaller : (inner outer : Bounds) (atoms : List Atom) → IsSmaller inner outer → IsLeftSmaller (all_assumed inner atoms) (all_assumed outer atoms)
assumed_smaller inner outer [] h = h
assumed_smaller inner outer (a ∷ atoms) h =
    assumed_cases (all_assumed (made_true inner a) atoms) (all_assumed (made_true outer a) atoms) (is_false_in inner a) (is_false_in outer a) (false_in_smaller inner outer a h)
    (assumed_smaller (made_true inner a) (made_true outer a) atoms (made_true_smaller inner outer a h))

-- ---- a clause

-- the first list is what is left of the second without some of its atoms
abbrev IsPart : List Atom → List Atom → Type 0
IsPart xs [] = xs ≡ []
IsPart xs (y ∷ ys) = IsPart xs ys ⊎ ((zs : List Atom) × (xs ≡ y ∷ zs) × IsPart zs ys)

part_step : (a : Atom) (xs ys : List Atom) (s t : Bool) → (t ≡ true → s ≡ true) → IsPart xs ys → IsPart (cond (not s) (a ∷ xs) xs) (cond (not t) (a ∷ ys) ys)
part_step a xs ys true true h part = part
part_step a xs ys true false h part = inl part
part_step a xs ys false true h part = absurd (false≢true (h refl))
part_step a xs ys false false h part = inr (xs, refl, part)

part_kept : (is_gone' is_gone : Atom → Bool) → ((a : Atom) → is_gone a ≡ true → is_gone' a ≡ true) → (atoms : List Atom) → IsPart (filter (λ a. not (is_gone' a)) atoms) (filter (λ a. not (is_gone a)) atoms)
part_kept is_gone' is_gone stays [] = refl
part_kept is_gone' is_gone stays (a ∷ atoms) =
    part_step a (filter (λ x. not (is_gone' x)) atoms) (filter (λ x. not (is_gone x)) atoms) (is_gone' a) (is_gone a) (stays a) (part_kept is_gone' is_gone stays atoms)

atoms_shrink : (b : Bounds) (atoms : List Atom) → IsLeftSmaller (left_by_atoms b atoms) (Some b)
atoms_shrink b [] = tt
atoms_shrink b (a ∷ []) = made_true_shrinks b a
atoms_shrink b (a ∷ a' ∷ atoms) = IsSmaller-same b

only_that : (x y : Atom) (xs zs : List Atom) → x ∷ xs ≡ y ∷ zs → zs ≡ [] → x ∷ xs ≡ y ∷ []
only_that x y xs zs e h = cc

atoms_narrow_smaller : (inner outer : Bounds) (xs ys : List Atom) → IsPart xs ys → IsSmaller inner outer → IsLeftSmaller (left_by_atoms inner xs) (left_by_atoms outer ys)
atoms_narrow_smaller inner outer [] ys part h = tt
atoms_narrow_smaller inner outer (x ∷ xs) [] part h = absurd (cc)
atoms_narrow_smaller inner outer (x ∷ xs) (y ∷ []) (inl part) h = absurd (cc)
atoms_narrow_smaller inner outer (x ∷ xs) (y ∷ []) (inr part) h =
    subst (λ (zs : List Atom). IsLeftSmaller (left_by_atoms inner zs) (Some (made_true outer y))) (sym (only_that x y xs part.0 part.1 part.2)) (made_true_smaller inner outer y h)
atoms_narrow_smaller inner outer (x ∷ xs) (y ∷ y' ∷ ys) part h =
    left_smaller_than_outer (left_by_atoms inner (x ∷ xs)) inner outer (atoms_shrink inner (x ∷ xs)) h

-- what a clause leaves of a box is smaller
pub clause_shrinks : (b : Bounds) (c : Clause) → IsLeftSmaller (left_by_clause b c) (Some b)
unfolding left_by_clause
clause_shrinks b c = atoms_shrink b (filter (λ a. not (is_false_in b a)) c.atoms)

-- and of a smaller box it leaves a smaller one or conflict
pub clause_narrows_smaller : (inner outer : Bounds) (c : Clause) → IsSmaller inner outer → IsLeftSmaller (left_by_clause inner c) (left_by_clause outer c)
unfolding left_by_clause
clause_narrows_smaller inner outer c h =
    atoms_narrow_smaller inner outer _ _ (part_kept (is_false_in inner) (is_false_in outer) (λ a. false_in_smaller inner outer a h) c.atoms) h

-- ---- the greatest sum

term_cases : (c lo hi lo' hi' : ℤ) (t : Bool) → lo ≤ℤ lo' → hi' ≤ℤ hi → int_lt c (pos 0) ≡ t → cond t (c *ℤ lo') (c *ℤ hi') ≤ℤ cond t (c *ℤ lo) (c *ℤ hi)
term_cases (pos n) lo hi lo' hi' true low high e = absurd (omega (arith, ints))
term_cases (negsuc n) lo hi lo' hi' true low high e = scaled_down n lo lo' low
term_cases (pos n) lo hi lo' hi' false low high e = scaled_up n hi' hi high
term_cases (negsuc n) lo hi lo' hi' false low high e = absurd (omega (arith, ints))

-- the greatest value of a term is no greater in a smaller box
pub term_smaller : (inner outer : Bounds) (c : ℤ) (x : ℕ) → IsSmaller inner outer → greatest_term inner c x ≤ℤ greatest_term outer c x
term_smaller inner outer c x h =
    term_cases c (lower_of outer x) (upper_of outer x) (lower_of inner x) (upper_of inner x) (int_lt c (pos 0)) (h.inside x).0 (h.inside x).1 refl

-- nor is the greatest sum of a row
pub activity_smaller : (inner outer : Bounds) (terms : List (ℤ × Var)) → IsSmaller inner outer → greatest_activity inner terms ≤ℤ greatest_activity outer terms
activity_smaller inner outer [] h = ≤ℤ_refl (pos 0)
activity_smaller inner outer (t ∷ terms) h =
    sum_at_most (greatest_term inner t.0 t.1.0) (greatest_term outer t.0 t.1.0) (greatest_activity inner terms) (greatest_activity outer terms) (term_smaller inner outer t.0 t.1.0 h) (activity_smaller inner outer terms h)

-- ---- each term keeps what the others leave it

raised_more : (n : ℕ) (hi' hi : ℤ) (room' room : ℕ) → (pos room' +ℤ (pos (suc n) *ℤ hi)) ≤ℤ (pos room +ℤ (pos (suc n) *ℤ hi')) → (hi -ℤ pos (room / suc n)) ≤ℤ (hi' -ℤ pos (room' / suc n))
raised_more n hi' hi room' room h =
    let scaled : suc n * (up hi + down hi') + room' ≤ suc n * (up hi' + down hi) + room = omega (arith, ints) in
    let bound : (up hi + down hi') + room' / suc n ≤ (up hi' + down hi) + room / suc n = quotient_at_most n (up hi + down hi') (up hi' + down hi) room' room scaled in
    omega (arith, ints)

lowered_more : (n : ℕ) (lo' lo : ℤ) (room' room : ℕ) → (pos room' +ℤ (negsuc n *ℤ lo)) ≤ℤ (pos room +ℤ (negsuc n *ℤ lo')) → (lo' +ℤ pos (room' / suc n)) ≤ℤ (lo +ℤ pos (room / suc n))
lowered_more n lo' lo room' room h =
    let scaled : suc n * (up lo' + down lo) + room' ≤ suc n * (up lo + down lo') + room = omega (arith, ints) in
    let bound : (up lo' + down lo) + room' / suc n ≤ (up lo + down lo') + room / suc n = quotient_at_most n (up lo' + down lo) (up lo + down lo') room' room scaled in
    omega (arith, ints)

rooms_at_greatest : (old' old : Bounds) (room' room n x : ℕ) → (pos room' +ℤ greatest_term old (pos (suc n)) x) ≤ℤ (pos room +ℤ greatest_term old' (pos (suc n)) x) → (pos room' +ℤ (pos (suc n) *ℤ upper_of old x)) ≤ℤ (pos room +ℤ (pos (suc n) *ℤ upper_of old' x))
rooms_at_greatest old' old room' room n x h =
    subst (λ (z : ℤ). (pos room' +ℤ (pos (suc n) *ℤ upper_of old x)) ≤ℤ (pos room +ℤ z)) (greatest_term-pos old' (suc n) x)
    (subst (λ (z : ℤ). (pos room' +ℤ z) ≤ℤ (pos room +ℤ greatest_term old' (pos (suc n)) x)) (greatest_term-pos old (suc n) x) h)

-- a term tightens a smaller box to a smaller one, where its room and greatest value leave it no more
pub tightened_by_term_smaller : (old' old : Bounds) (room' room : ℕ) (c : ℤ) (x : Var) (inner outer : Bounds) → (pos room' +ℤ greatest_term old c x.0) ≤ℤ (pos room +ℤ greatest_term old' c x.0) → IsSmaller inner outer → IsSmaller (tightened_by_term old' room' c x inner) (tightened_by_term old room c x outer)
tightened_by_term_smaller old' old room' room (pos zero) x inner outer h smaller = smaller
tightened_by_term_smaller old' old room' room (pos (suc n)) x inner outer h smaller =
    let rooms : (pos room' +ℤ (pos (suc n) *ℤ upper_of old x.0)) ≤ℤ (pos room +ℤ (pos (suc n) *ℤ upper_of old' x.0)) = rooms_at_greatest old' old room' room n x.0 h in
    raised_smaller inner outer x.0 (upper_of old' x.0 -ℤ pos (room' / suc n)) (upper_of old x.0 -ℤ pos (room / suc n)) smaller (raised_more n (upper_of old' x.0) (upper_of old x.0) room' room rooms)
tightened_by_term_smaller old' old room' room (negsuc n) x inner outer h smaller =
    reduced_smaller inner outer x.0 (lower_of old' x.0 +ℤ pos (room' / suc n)) (lower_of old x.0 +ℤ pos (room / suc n)) smaller (lowered_more n (lower_of old' x.0) (lower_of old x.0) room' room h)

-- the rooms of two sums are rooms for their first parts, and for the rests
rooms_for_first : (r' r x' x u' u : ℤ) → u' ≤ℤ u → (r' +ℤ (x +ℤ u)) ≤ℤ (r +ℤ (x' +ℤ u')) → (r' +ℤ x) ≤ℤ (r +ℤ x')
rooms_for_first r' r x' x u' u k h = omega (arith, ints)

rooms_for_rest : (r' r x' x u' u : ℤ) → x' ≤ℤ x → (r' +ℤ (x +ℤ u)) ≤ℤ (r +ℤ (x' +ℤ u')) → (r' +ℤ u) ≤ℤ (r +ℤ u')
rooms_for_rest r' r x' x u' u k h = omega (arith, ints)

-- so do all terms, from old boxes of which one is smaller
pub tightened_by_terms_smaller : (old' old : Bounds) (room' room : ℕ) (terms : List (ℤ × Var)) (inner outer : Bounds) → IsSmaller old' old → (pos room' +ℤ greatest_activity old terms) ≤ℤ (pos room +ℤ greatest_activity old' terms) → IsSmaller inner outer → IsSmaller (tightened_by_terms old' room' terms inner) (tightened_by_terms old room terms outer)
tightened_by_terms_smaller old' old room' room [] inner outer olds h smaller = smaller
tightened_by_terms_smaller old' old room' room (t ∷ terms) inner outer olds h smaller =
    let x' : ℤ = greatest_term old' t.0 t.1.0 in
    let x : ℤ = greatest_term old t.0 t.1.0 in
    let first : (pos room' +ℤ greatest_term old t.0 t.1.0) ≤ℤ (pos room +ℤ greatest_term old' t.0 t.1.0) = rooms_for_first (pos room') (pos room) x' x (greatest_activity old' terms) (greatest_activity old terms) (activity_smaller old' old terms olds) h in
    let rest : (pos room' +ℤ greatest_activity old terms) ≤ℤ (pos room +ℤ greatest_activity old' terms) = rooms_for_rest (pos room') (pos room) x' x (greatest_activity old' terms) (greatest_activity old terms) (term_smaller old' old t.0 t.1.0 olds) h in
    tightened_by_terms_smaller old' old room' room terms (tightened_by_term old' room' t.0 t.1 inner) (tightened_by_term old room t.0 t.1 outer) olds rest
    (tightened_by_term_smaller old' old room' room t.0 t.1 inner outer first smaller)

-- what a term leaves of a box is smaller
pub tightened_by_term_shrinks : (old : Bounds) (room : ℕ) (c : ℤ) (x : Var) (b : Bounds) → IsSmaller (tightened_by_term old room c x b) b
tightened_by_term_shrinks old room (pos zero) x b = IsSmaller-same b
tightened_by_term_shrinks old room (pos (suc n)) x b =
    made_true_shrinks b (record { var = x; at_least = true; k = upper_of old x.0 -ℤ pos (room / suc n) })
tightened_by_term_shrinks old room (negsuc n) x b =
    made_true_shrinks b (record { var = x; at_least = false; k = lower_of old x.0 +ℤ pos (room / suc n) })

-- so is what all terms leave
pub tightened_by_terms_shrinks : (old : Bounds) (room : ℕ) (terms : List (ℤ × Var)) (b : Bounds) → IsSmaller (tightened_by_terms old room terms b) b
tightened_by_terms_shrinks old room [] b = IsSmaller-same b
tightened_by_terms_shrinks old room (t ∷ terms) b =
    IsSmaller-trans _ (tightened_by_term old room t.0 t.1 b) b (tightened_by_terms_shrinks old room terms (tightened_by_term old room t.0 t.1 b)) (tightened_by_term_shrinks old room t.0 t.1 b)

-- ---- a row

-- a row that is claimed in a box is claimed in a smaller one
pub claimed_in_smaller : (inner outer : Bounds) (g : Option Atom) → IsSmaller inner outer → is_claimed_in outer g ≡ true → is_claimed_in inner g ≡ true
claimed_in_smaller inner outer None h e = refl
claimed_in_smaller inner outer (Some g) h e = true_in_smaller inner outer g h e

met_shrinks_cases : (b : Bounds) (r : Row) (t : Bool) (room : ℕ) → IsSmaller (if t then tightened_by_terms b room r.terms b else b) b
met_shrinks_cases b r true room = tightened_by_terms_shrinks b room r.terms b
met_shrinks_cases b r false room = IsSmaller-same b

met_shrinks : (b : Bounds) (r : Row) → IsSmaller (left_by_met b r) b
met_shrinks b r = met_shrinks_cases b r (is_claimed_in b r.guard) _

unmet_shrinks_cases : (b : Bounds) (g : Atom) (t : Bool) → IsLeftSmaller (if t then None else Some (made_true b (negation g))) (Some b)
unmet_shrinks_cases b g true = tt
unmet_shrinks_cases b g false = made_true_shrinks b (negation g)

unmet_shrinks : (b : Bounds) (g : Option Atom) → IsLeftSmaller (left_by_unmet b g) (Some b)
unmet_shrinks b None = tt
unmet_shrinks b (Some g) = unmet_shrinks_cases b g (is_true_in b g)

unmet_smaller_cases : (inner outer : Bounds) (g : Atom) (s t : Bool) → (t ≡ true → s ≡ true) → IsSmaller inner outer → IsLeftSmaller (if s then None else Some (made_true inner (negation g))) (if t then None else Some (made_true outer (negation g)))
unmet_smaller_cases inner outer g true t e h = tt
unmet_smaller_cases inner outer g false true e h = absurd (false≢true (e refl))
unmet_smaller_cases inner outer g false false e h = made_true_smaller inner outer (negation g) h

unmet_smaller : (inner outer : Bounds) (g : Option Atom) → IsSmaller inner outer → IsLeftSmaller (left_by_unmet inner g) (left_by_unmet outer g)
unmet_smaller inner outer None h = tt
unmet_smaller inner outer (Some g) h =
    unmet_smaller_cases inner outer g (is_true_in inner g) (is_true_in outer g) (true_in_smaller inner outer g h) h

same_rooms : (sum' sum least : ℤ) → int_lt sum' least ≡ false → int_lt sum least ≡ false → (pos (unsigned_abs (sum' -ℤ least)) +ℤ sum) ≤ℤ (pos (unsigned_abs (sum -ℤ least)) +ℤ sum')
same_rooms sum' sum least h k = omega (arith, ints)

met_smaller_cases : (inner outer : Bounds) (r : Row) (s t : Bool) (room' room : ℕ) → (t ≡ true → s ≡ true) → IsSmaller inner outer → (pos room' +ℤ greatest_activity outer r.terms) ≤ℤ (pos room +ℤ greatest_activity inner r.terms) → IsSmaller (if s then tightened_by_terms inner room' r.terms inner else inner) (if t then tightened_by_terms outer room r.terms outer else outer)
met_smaller_cases inner outer r true true room' room e h rooms = tightened_by_terms_smaller inner outer room' room r.terms inner outer h rooms h
met_smaller_cases inner outer r true false room' room e h rooms = IsSmaller-trans _ inner outer (tightened_by_terms_shrinks inner room' r.terms inner) h
met_smaller_cases inner outer r false true room' room e h rooms = absurd (false≢true (e refl))
met_smaller_cases inner outer r false false room' room e h rooms = h

met_smaller : (inner outer : Bounds) (r : Row) → IsSmaller inner outer → int_lt (greatest_activity inner r.terms) r.least ≡ false → int_lt (greatest_activity outer r.terms) r.least ≡ false → IsSmaller (left_by_met inner r) (left_by_met outer r)
met_smaller inner outer r h below below' =
    met_smaller_cases inner outer r (is_claimed_in inner r.guard) (is_claimed_in outer r.guard) (unsigned_abs (greatest_activity inner r.terms -ℤ r.least)) (unsigned_abs (greatest_activity outer r.terms -ℤ r.least)) (claimed_in_smaller inner outer r.guard h) h
    (same_rooms (greatest_activity inner r.terms) (greatest_activity outer r.terms) r.least below below')

-- values of the outer box meet the row, but none of the inner
unmet_in_met_cases : (inner outer met : Bounds) (g : Atom) (s t : Bool) → (t ≡ true → s ≡ true) → IsSmaller inner outer → IsLeftSmaller (if s then None else Some (made_true inner (negation g))) (Some (if t then met else outer))
unmet_in_met_cases inner outer met g true t e h = tt
unmet_in_met_cases inner outer met g false true e h = absurd (false≢true (e refl))
unmet_in_met_cases inner outer met g false false e h = IsSmaller-trans (made_true inner (negation g)) inner outer (made_true_shrinks inner (negation g)) h

unmet_in_met : (inner outer met : Bounds) (g : Option Atom) → IsSmaller inner outer → IsLeftSmaller (left_by_unmet inner g) (Some (if is_claimed_in outer g then met else outer))
unmet_in_met inner outer met None h = tt
unmet_in_met inner outer met (Some g) h =
    unmet_in_met_cases inner outer met g (is_true_in inner g) (is_true_in outer g) (true_in_smaller inner outer g h) h

below_both : (sum' sum least : ℤ) → sum' ≤ℤ sum → int_lt sum' least ≡ false → int_lt sum least ≡ true → ⊥
below_both sum' sum least h e f = omega (arith, ints)

row_cases : (inner outer : Bounds) (r : Row) (s t : Bool) → int_lt (greatest_activity inner r.terms) r.least ≡ s → int_lt (greatest_activity outer r.terms) r.least ≡ t → IsSmaller inner outer → IsLeftSmaller (if s then left_by_unmet inner r.guard else Some (left_by_met inner r)) (if t then left_by_unmet outer r.guard else Some (left_by_met outer r))
row_cases inner outer r true true e f h = unmet_smaller inner outer r.guard h
row_cases inner outer r true false e f h = unmet_in_met inner outer _ r.guard h
row_cases inner outer r false true e f h =
    let less : greatest_activity inner r.terms ≤ℤ greatest_activity outer r.terms = activity_smaller inner outer r.terms h in
    absurd (below_both (greatest_activity inner r.terms) (greatest_activity outer r.terms) r.least less e f)
row_cases inner outer r false false e f h = met_smaller inner outer r h e f

row_shrinks_cases : (b : Bounds) (r : Row) (t : Bool) → IsLeftSmaller (if t then left_by_unmet b r.guard else Some (left_by_met b r)) (Some b)
row_shrinks_cases b r true = unmet_shrinks b r.guard
row_shrinks_cases b r false = met_shrinks b r

-- what a row leaves of a box is smaller
pub row_shrinks : (b : Bounds) (r : Row) → IsLeftSmaller (left_by_row b r) (Some b)
unfolding left_by_row
row_shrinks b r = row_shrinks_cases b r (int_lt (greatest_activity b r.terms) r.least)

-- and of a smaller box it leaves a smaller one or conflict
pub row_narrows_smaller : (inner outer : Bounds) (r : Row) → IsSmaller inner outer → IsLeftSmaller (left_by_row inner r) (left_by_row outer r)
unfolding left_by_row
row_narrows_smaller inner outer r h =
    row_cases inner outer r (int_lt (greatest_activity inner r.terms) r.least) (int_lt (greatest_activity outer r.terms) r.least) refl refl h

-- ---- what a hint names

-- what a clause or a row leaves of a box is smaller
pub narrowing_shrinks : (b : Bounds) (c : Constraint) → IsLeftSmaller (left_by b c) (Some b)
narrowing_shrinks b (of_clause c) = clause_shrinks b c
narrowing_shrinks b (of_row r) = row_shrinks b r

-- and of a smaller box it leaves a smaller one or conflict
pub narrowing_smaller : (inner outer : Bounds) (c : Constraint) → IsSmaller inner outer → IsLeftSmaller (left_by inner c) (left_by outer c)
narrowing_smaller inner outer (of_clause c) h = clause_narrows_smaller inner outer c h
narrowing_smaller inner outer (of_row r) h = row_narrows_smaller inner outer r h

named_smaller : (inner outer : Bounds) (o : Option Constraint) → IsSmaller inner outer → IsLeftSmaller (left_by_named inner o) (left_by_named outer o)
named_smaller inner outer None h = h
named_smaller inner outer (Some c) h = narrowing_smaller inner outer c h

next_smaller : (inner outer : Option Bounds) (next : Bounds → Option Bounds) → IsLeftSmaller inner outer → ((i o : Bounds) → IsSmaller i o → IsLeftSmaller (next i) (next o)) → IsLeftSmaller (option_and_then next inner) (option_and_then next outer)
next_smaller None outer next h rest = tt
next_smaller (Some i) None next h rest = absurd h
next_smaller (Some i) (Some o) next h rest = rest i o h

-- hints in their order leave of a smaller box a smaller one or conflict
pub hints_smaller : (p : Instance) (s : LogState) (inner outer : Bounds) (hints : List Hint) → IsSmaller inner outer → IsLeftSmaller (all_narrowed p s inner hints) (all_narrowed p s outer hints)
hints_smaller p s inner outer [] h = h
hints_smaller p s inner outer (x ∷ hints) h =
    next_smaller (narrowed p s inner x) (narrowed p s outer x) (λ b. all_narrowed p s b hints) (named_smaller inner outer (named p s x) h)
    (λ i o smaller. hints_smaller p s i o hints smaller)
