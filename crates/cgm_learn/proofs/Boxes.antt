-- Boxes before and after a bound is changed: what a smaller box says of a larger one, and the other way round.
use Rattle.std.proofs.Common.{◌≡◌, ◌≢◌, ℕ, zero, suc, ◌<◌, ◌≤◌, ◌⊎◌, inl, inr, Bool, true, false, cond, List, [], ◌∷◌, length, refl, ap, sym, ◌∙◌, subst, arith, length-set}
use Rattle.std.specs.Prelude.{ℤ, pos, ◌+ℤ◌, ◌-ℤ◌, ◌≤ℤ◌, ◌<ℤ◌, IsTrue, int_le, int_lt, slice_set}
use Rattle.std.proofs.lemmas.Bool.{cases_lt}
use Rattle.std.proofs.lemmas.Int.{ints, clamps}
use Rattle.std.proofs.lemmas.List.{get_or-set_other, get_or-set_same, get_or_past, set-get_or}
use Rattle.std.specs.Int.{int_max, int_min}
use Rattle.cgm_atom.specs.declared.constraints.Atom.{Atom}
use Rattle.cgm_atom.specs.declared.constraints.Var.{Var}
use Rattle.cgm_atom.specs.Atoms.{negation}
use Rattle.cgm_atom.specs.Bounds.{Bounds, IsBoxOf, lower_of, upper_of, value_of}
use Rattle.cgm_atom.specs.Laws.{IsSmaller}
use Rattle.cgm_atom.specs.Narrowing.{is_false_in, is_true_in, made_true, raised, reduced}
use Rattle.cgm_atom.specs.Relaxing.{IsNumberWithin, at_bound_of, bound_of, relaxed}
use Rattle.cgm_atom.proofs.Shrinking.{false_in_smaller, made_true_shrinks, true_in_smaller}
use Rattle.cgm_atom.proofs.SignedSteps.{le_is_true, lt_is_true, ≤ℤ_refl, ≤ℤ_trans}
use Rattle.cgm_trail.specs.declared.changes.Change.{Change}
use Rattle.cgm_trail.specs.TrailState.{IsChangeOf, IsOpenIn}
use Rattle.cgm_learn.specs.Walking.{IsInsideAt, is_met_before}

pub read_le : (a b : ℤ) → int_le a b ≡ true → a ≤ℤ b
read_le a b h = grind (arith, ints)

pub read_not_le : (a b : ℤ) → int_le a b ≡ false → b <ℤ a
read_not_le a b h = grind (arith, ints)

pub read_lt : (a b : ℤ) → int_lt a b ≡ true → a <ℤ b
read_lt a b h = grind (arith, ints)

pub read_not_lt : (a b : ℤ) → int_lt a b ≡ false → b ≤ℤ a
read_not_lt a b h = grind (arith, ints)

pub lt_is_false : (a b : ℤ) → b ≤ℤ a → int_lt a b ≡ false
lt_is_false a b h = grind (arith, ints)

not_le_less : (u k : ℤ) → k ≤ℤ u → int_le u (k -ℤ pos 1) ≡ false
not_le_less u k h = grind (arith, ints)

not_more_le : (l k : ℤ) → l ≤ℤ k → int_le (k +ℤ pos 1) l ≡ false
not_more_le l k h = grind (arith, ints)

below_before : (k l : ℤ) → l <ℤ k → l ≤ℤ (k -ℤ pos 1)
below_before k l h = omega (arith, ints)

above_after : (k u : ℤ) → k <ℤ u → (k +ℤ pos 1) ≤ℤ u
above_after k u h = omega (arith, ints)

pub after_below : (k l : ℤ) → (k -ℤ pos 1) <ℤ l → k ≤ℤ l
after_below k l h = omega (arith, ints)

pub before_above : (k u : ℤ) → u <ℤ (k +ℤ pos 1) → u ≤ℤ k
before_above k u h = omega (arith, ints)

min_less : (u k : ℤ) → int_lt (int_min u (k -ℤ pos 1)) k ≡ true
min_less u k = lt_is_true (int_min u (k -ℤ pos 1)) k (omega (arith, ints, clamps))

max_more : (l k : ℤ) → int_lt k (int_max l (k +ℤ pos 1)) ≡ true
max_more l k = lt_is_true k (int_max l (k +ℤ pos 1)) (omega (arith, ints, clamps))

-- a value before a write is the written one, but at its place
value_of-unset : (P : ℤ → Type 0) (xs : List ℤ) (i x : ℕ) (v : ℤ) → P (value_of (slice_set xs i v) x) → (x ≡ i → P (value_of xs x)) → P (value_of xs x)
value_of-unset P [] i x v h k = h
value_of-unset P (a ∷ xs) zero zero v h k = k refl
value_of-unset P (a ∷ xs) zero (suc x) v h k = h
value_of-unset P (a ∷ xs) (suc i) zero v h k = h
value_of-unset P (a ∷ xs) (suc i) (suc x) v h k = value_of-unset P xs i x v h (λ e. k (ap suc e))

-- two lists with a value written at the same place
set_both_below : (xs ys : List ℤ) (i x : ℕ) (v w : ℤ) → length xs ≡ length ys → (x ≢ i → value_of xs x ≤ℤ value_of ys x) → v ≤ℤ w → value_of (slice_set xs i v) x ≤ℤ value_of (slice_set ys i w) x
set_both_below [] [] i x v w e h k = ≤ℤ_refl (pos 0)
set_both_below [] (b ∷ ys) i x v w e h k = absurd (omega arith)
set_both_below (a ∷ xs) [] i x v w e h k = absurd (omega arith)
set_both_below (a ∷ xs) (b ∷ ys) zero zero v w e h k = k
set_both_below (a ∷ xs) (b ∷ ys) zero (suc x) v w e h k = h (λ q. omega (arith, q))
set_both_below (a ∷ xs) (b ∷ ys) (suc i) zero v w e h k = h (λ q. omega (arith, q))
set_both_below (a ∷ xs) (b ∷ ys) (suc i) (suc x) v w e h k =
    set_both_below xs ys i x v w (omega arith) (λ d. h (λ q. d (omega (arith, q)))) k

-- ---- the bound before a change

before_cases : (b r : Bounds) (x : ℕ) (up : Bool) (k was : ℤ) → was ≡ cond up (lower_of b x) (upper_of b x) → IsSmaller (cond up (raised b x k) (reduced b x k)) r → cond up (int_le (lower_of r x) was) (int_le was (upper_of r x)) ≡ true → IsSmaller b r
before_cases b r x true k was e h met = record {
  lower_count = sym (length-set b.lower x _) ∙ h.lower_count;
  upper_count = h.upper_count;
  inside = λ y. (
    value_of-unset (λ v. lower_of r y ≤ℤ v) b.lower x y _ (h.inside y).0
        (λ q. subst (λ z. lower_of r z ≤ℤ lower_of b z) (sym q) (subst (λ v. lower_of r x ≤ℤ v) e (read_le (lower_of r x) was met))),
    (h.inside y).1,
  );
}
before_cases b r x false k was e h met = record {
  lower_count = h.lower_count;
  upper_count = sym (length-set b.upper x _) ∙ h.upper_count;
  inside = λ y. (
    (h.inside y).0,
    value_of-unset (λ v. v ≤ℤ upper_of r y) b.upper x y _ (h.inside y).1
        (λ q. subst (λ z. upper_of b z ≤ℤ upper_of r z) (sym q) (subst (λ v. v ≤ℤ upper_of r x) e (read_le was (upper_of r x) met))),
  );
}

-- where the earlier bound is enough, the box before the change lies in the needed one too
pub smaller_before : (b r : Bounds) (c : Change) → IsChangeOf b c → IsSmaller (made_true b c.atom) r → is_met_before r c ≡ true → IsSmaller b r
smaller_before b r c h smaller met =
    before_cases b r c.atom.var.0 c.atom.at_least c.atom.k c.was h.before smaller met

rest_cases : (limits b r : Bounds) (v : Var) (up : Bool) (k : ℤ) → IsBoxOf limits b → IsSmaller (made_true b (record { var = v; at_least = up; k = k })) r → IsSmaller b (relaxed r (at_bound_of limits (record { var = v; at_least = up; k = k })))
rest_cases limits b r v true k place h = let x : ℕ = v.0 in record {
  lower_count = sym (length-set b.lower x _) ∙ h.lower_count ∙ sym (length-set r.lower x _);
  upper_count = h.upper_count;
  inside = λ y. (
    subst (λ ls. value_of (slice_set r.lower x (lower_of limits x)) y ≤ℤ value_of ls y) (set-get_or b.lower x (pos 0))
        (set_both_below r.lower b.lower x y (lower_of limits x) (lower_of b x) (sym h.lower_count ∙ length-set b.lower x _)
        (λ d. subst (λ v. lower_of r y ≤ℤ v) (get_or-set_other b.lower x y _ (pos 0) d) (h.inside y).0) (place.inside x).0),
    (h.inside y).1,
  );
}
rest_cases limits b r v false k place h = let x : ℕ = v.0 in record {
  lower_count = h.lower_count;
  upper_count = sym (length-set b.upper x _) ∙ h.upper_count ∙ sym (length-set r.upper x _);
  inside = λ y. (
    (h.inside y).0,
    subst (λ us. value_of us y ≤ℤ value_of (slice_set r.upper x (upper_of limits x)) y) (set-get_or b.upper x (pos 0))
        (set_both_below b.upper r.upper x y (upper_of b x) (upper_of limits x) (sym (length-set b.upper x _) ∙ h.upper_count)
        (λ d. subst (λ v. v ≤ℤ upper_of r y) (get_or-set_other b.upper x y _ (pos 0) d) (h.inside y).1) (place.inside x).1),
  );
}

-- without the changed bound, the box before the change lies in what else is needed
pub rest_before : (limits b r : Bounds) (c : Change) → IsBoxOf limits b → IsSmaller (made_true b c.atom) r → IsSmaller b (relaxed r (at_bound_of limits c.atom))
rest_before limits b r c place smaller = rest_cases limits b r c.atom.var c.atom.at_least c.atom.k place smaller

rejoined_cases : (limits r b : Bounds) (x : Var) (up : Bool) (k : ℤ) → IsSmaller b (relaxed r (record { var = x; at_least = up; k = k })) → is_true_in b (record { var = x; at_least = up; k = bound_of r (record { var = x; at_least = up; k = k }) }) ≡ true → IsSmaller b r
rejoined_cases limits r b x true k h holds = record {
  lower_count = h.lower_count ∙ length-set r.lower x.0 _;
  upper_count = h.upper_count;
  inside = λ y. (
    value_of-unset (λ v. v ≤ℤ lower_of b y) r.lower x.0 y _ (h.inside y).0
        (λ q. subst (λ z. lower_of r z ≤ℤ lower_of b z) (sym q) (read_le (lower_of r x.0) (lower_of b x.0) holds)),
    (h.inside y).1,
  );
}
rejoined_cases limits r b x false k h holds = record {
  lower_count = h.lower_count;
  upper_count = h.upper_count ∙ length-set r.upper x.0 _;
  inside = λ y. (
    (h.inside y).0,
    value_of-unset (λ v. upper_of b y ≤ℤ v) r.upper x.0 y _ (h.inside y).1
        (λ q. subst (λ z. upper_of b z ≤ℤ upper_of r z) (sym q) (read_le (upper_of b x.0) (upper_of r x.0) holds)),
  );
}

-- a box of the rest in which the needed bound holds lies in what is needed
pub rejoined : (limits r b : Bounds) (a : Atom) → IsSmaller b (relaxed r (at_bound_of limits a)) → is_true_in b (at_bound_of r a) ≡ true → IsSmaller b r
rejoined limits r b a h holds = rejoined_cases limits r b a.var a.at_least (bound_of limits a) h holds

-- ---- the needed bound as an atom

three : (a b c d : ℤ) → a ≤ℤ b → b ≤ℤ c → c ≤ℤ d → a ≤ℤ d
three a b c d h k l = ≤ℤ_trans a b d h (≤ℤ_trans b c d k l)

not_true_cases : (b r : Bounds) (x : Var) (up : Bool) (k was : ℤ) → was ≡ cond up (lower_of b x.0) (upper_of b x.0) → cond up (int_le (lower_of r x.0) was) (int_le was (upper_of r x.0)) ≡ false → is_true_in b (at_bound_of r (record { var = x; at_least = up; k = k })) ≡ false
not_true_cases b r x true k was e h = subst (λ v. int_le (lower_of r x.0) v ≡ false) e h
not_true_cases b r x false k was e h = subst (λ v. int_le v (upper_of r x.0) ≡ false) e h

not_false_cases : (b m r : Bounds) (x : Var) (up : Bool) (k : ℤ) → IsSmaller m b → IsSmaller m r → lower_of m x.0 ≤ℤ upper_of m x.0 → is_false_in b (at_bound_of r (record { var = x; at_least = up; k = k })) ≡ false
not_false_cases b m r x true k h g o = lt_is_false (upper_of b x.0) (lower_of r x.0) (three (lower_of r x.0) (lower_of m x.0) (upper_of m x.0) (upper_of b x.0) (g.inside x.0).0 o (h.inside x.0).1)
not_false_cases b m r x false k h g o = lt_is_false (upper_of r x.0) (lower_of b x.0) (three (lower_of b x.0) (lower_of m x.0) (upper_of m x.0) (upper_of r x.0) (h.inside x.0).0 o (g.inside x.0).1)

-- it was open in the box before the change
pub open_before : (b r : Bounds) (c : Change) → IsChangeOf b c → ((x : ℕ) → lower_of (made_true b c.atom) x ≤ℤ upper_of (made_true b c.atom) x) → IsSmaller (made_true b c.atom) r → is_met_before r c ≡ false → IsOpenIn b (at_bound_of r c.atom)
open_before b r c h ordered smaller unmet = record {
  known = h.undecided.known;
  not_true = not_true_cases b r c.atom.var c.atom.at_least c.atom.k c.was h.before unmet;
  not_false = not_false_cases b (made_true b c.atom) r c.atom.var c.atom.at_least c.atom.k (made_true_shrinks b c.atom) smaller (ordered c.atom.var.0);
}

max_of : (l k r v : ℤ) → r ≤ℤ int_max l k → l ≤ℤ v → k ≤ℤ v → r ≤ℤ v
max_of l k r v h a b = omega (arith, ints, clamps)

min_of : (u k r v : ℤ) → int_min u k ≤ℤ r → v ≤ℤ u → v ≤ℤ k → v ≤ℤ r
min_of u k r v h a b = omega (arith, ints, clamps)

true_cases : (b r left : Bounds) (x : Var) (up : Bool) (k : ℤ) → x.0 < length b.lower → x.0 < length b.upper → IsSmaller (made_true b (record { var = x; at_least = up; k = k })) r → IsSmaller left b → is_true_in left (record { var = x; at_least = up; k = k }) ≡ true → is_true_in left (at_bound_of r (record { var = x; at_least = up; k = k })) ≡ true
true_cases b r left x true k known known' h less holds =
    le_is_true (lower_of r x.0) (lower_of left x.0)
    (max_of (lower_of b x.0) k (lower_of r x.0) (lower_of left x.0)
    (subst (λ v. lower_of r x.0 ≤ℤ v) (get_or-set_same b.lower x.0 (int_max (lower_of b x.0) k) (pos 0) known) (h.inside x.0).0)
    (less.inside x.0).0 (read_le k (lower_of left x.0) holds))
true_cases b r left x false k known known' h less holds =
    le_is_true (upper_of left x.0) (upper_of r x.0)
    (min_of (upper_of b x.0) k (upper_of r x.0) (upper_of left x.0)
    (subst (λ v. v ≤ℤ upper_of r x.0) (get_or-set_same b.upper x.0 (int_min (upper_of b x.0) k) (pos 0) known') (h.inside x.0).1)
    (less.inside x.0).1 (read_le (upper_of left x.0) k holds))

-- an atom that narrowing makes true, if the change's atom is
pub true_at_need : (b r left : Bounds) (a : Atom) → a.var.0 < length b.lower → length b.upper ≡ length b.lower → IsSmaller (made_true b a) r → IsSmaller left b → is_true_in left a ≡ true → is_true_in left (at_bound_of r a) ≡ true
true_at_need b r left a known even smaller less holds = true_cases b r left a.var a.at_least a.k known (omega (arith, known, even)) smaller less holds

-- ---- open atoms and larger boxes

open_by : (inner outer : Bounds) (a : Atom) (t f : Bool) → IsSmaller inner outer → IsOpenIn inner a → is_true_in outer a ≡ t → is_false_in outer a ≡ f → IsOpenIn outer a
open_by inner outer a true f h o e g = let s = true_in_smaller inner outer a h e in let n = o.not_true in absurd (cc)
open_by inner outer a false true h o e g = let s = false_in_smaller inner outer a h g in let n = o.not_false in absurd (cc)
open_by inner outer a false false h o e g =
    let known = o.known in
    record { known = omega (arith, known, h.lower_count); not_true = e; not_false = g }

pub open_in_larger : (inner outer : Bounds) (a : Atom) → IsSmaller inner outer → IsOpenIn inner a → IsOpenIn outer a
open_in_larger inner outer a h o = open_by inner outer a (is_true_in outer a) (is_false_in outer a) h o refl refl

-- ---- inside at each variable

both_past : (us vs : List ℤ) (x : ℕ) → length us ≡ length vs → length us ≤ x → value_of us x ≡ value_of vs x
both_past us vs x e h = get_or_past us x (pos 0) h ∙ sym (get_or_past vs x (pos 0) (omega (arith, e, h)))

inside_past : (inner outer : Bounds) (x : ℕ) → length inner.lower ≡ length outer.lower → length inner.upper ≡ length outer.upper → length inner.lower ≤ x → length inner.upper ≤ x → IsInsideAt inner outer x
inside_past inner outer x e f h k = (
  subst (λ v. v ≤ℤ lower_of inner x) (both_past inner.lower outer.lower x e h) (≤ℤ_refl (lower_of inner x)),
  subst (λ v. upper_of inner x ≤ℤ v) (both_past inner.upper outer.upper x f k) (≤ℤ_refl (upper_of inner x)),
)

inside_by : (inner outer : Bounds) (n x : ℕ) → length inner.lower ≡ length outer.lower → length inner.upper ≡ length outer.upper → length inner.lower ≡ n → length inner.upper ≡ n → (x < n) ⊎ (n ≤ x) → ((y : ℕ) → y < n → IsInsideAt inner outer y) → IsInsideAt inner outer x
inside_by inner outer n x e f g g' (inl h) each = each x h
inside_by inner outer n x e f g g' (inr h) each = inside_past inner outer x e f (omega (arith, g, h)) (omega (arith, g', h))

pub inside_from : (inner outer : Bounds) (n : ℕ) → length inner.lower ≡ length outer.lower → length inner.upper ≡ length outer.upper → length inner.lower ≡ n → length inner.upper ≡ n → ((y : ℕ) → y < n → IsInsideAt inner outer y) → IsSmaller inner outer
inside_from inner outer n e f g g' each =
    record { lower_count = e; upper_count = f; inside = λ x. inside_by inner outer n x e f g g' (cases_lt x n) each }

-- ---- negations

negation_open_cases : (b : Bounds) (x : Var) (up : Bool) (k : ℤ) → IsOpenIn b (record { var = x; at_least = up; k = k }) → IsOpenIn b (negation (record { var = x; at_least = up; k = k }))
negation_open_cases b x true k h = record {
  known = h.known;
  not_true = not_le_less (upper_of b x.0) k (read_not_lt (upper_of b x.0) k h.not_false);
  not_false = lt_is_false (k -ℤ pos 1) (lower_of b x.0) (below_before k (lower_of b x.0) (read_not_le k (lower_of b x.0) h.not_true));
}
negation_open_cases b x false k h = record {
  known = h.known;
  not_true = not_more_le (lower_of b x.0) k (read_not_lt k (lower_of b x.0) h.not_false);
  not_false = lt_is_false (upper_of b x.0) (k +ℤ pos 1) (above_after k (upper_of b x.0) (read_not_le (upper_of b x.0) k h.not_true));
}

-- the negation of an open atom is open
pub negation_open : (b : Bounds) (a : Atom) → IsOpenIn b a → IsOpenIn b (negation a)
negation_open b a h = negation_open_cases b a.var a.at_least a.k h

true_negation_cases : (b : Bounds) (x : Var) (up : Bool) (k : ℤ) → is_false_in b (negation (record { var = x; at_least = up; k = k })) ≡ true → is_true_in b (record { var = x; at_least = up; k = k }) ≡ true
true_negation_cases b x true k h = le_is_true k (lower_of b x.0) (after_below k (lower_of b x.0) (read_lt (k -ℤ pos 1) (lower_of b x.0) h))
true_negation_cases b x false k h = le_is_true (upper_of b x.0) k (before_above k (upper_of b x.0) (read_lt (upper_of b x.0) (k +ℤ pos 1) h))

-- an atom whose negation is false is true
pub true_negation : (b : Bounds) (a : Atom) → is_false_in b (negation a) ≡ true → is_true_in b a ≡ true
true_negation b a h = true_negation_cases b a.var a.at_least a.k h

false_made_cases : (b : Bounds) (x : Var) (up : Bool) (k : ℤ) → x.0 < length b.lower → x.0 < length b.upper → is_false_in (made_true b (negation (record { var = x; at_least = up; k = k }))) (record { var = x; at_least = up; k = k }) ≡ true
false_made_cases b x true k known known' =
    rw (get_or-set_same b.upper x.0 (int_min (upper_of b x.0) (k -ℤ pos 1)) (pos 0) known') (min_less (upper_of b x.0) k)
false_made_cases b x false k known known' =
    rw (get_or-set_same b.lower x.0 (int_max (lower_of b x.0) (k +ℤ pos 1)) (pos 0) known) (max_more (lower_of b x.0) k)

-- an atom is false where its negation was made true
pub false_made : (b : Bounds) (a : Atom) → a.var.0 < length b.lower → length b.upper ≡ length b.lower → is_false_in (made_true b (negation a)) a ≡ true
false_made b a known even = false_made_cases b a.var a.at_least a.k known (omega (arith, known, even))

made_counts_cases : (b : Bounds) (x : ℕ) (up : Bool) (k : ℤ) → length b.upper ≡ length b.lower → (length (cond up (raised b x k) (reduced b x k)).upper ≡ length (cond up (raised b x k) (reduced b x k)).lower) × (length (cond up (raised b x k) (reduced b x k)).lower ≡ length b.lower)
made_counts_cases b x true k e = (e ∙ sym (length-set b.lower x _), length-set b.lower x _)
made_counts_cases b x false k e = (length-set b.upper x _ ∙ e, refl)

pub made_counts : (b : Bounds) (a : Atom) → length b.upper ≡ length b.lower → (length (made_true b a).upper ≡ length (made_true b a).lower) × (length (made_true b a).lower ≡ length b.lower)
made_counts b a e = made_counts_cases b a.var.0 a.at_least a.k e

-- ---- the limits

-- the bound of the limits holds in each box within them
pub record IsLimit (limits b : Bounds) (a : Atom) : Type 0 where
  pub met : IsTrue (is_true_in b a)
  pub within : IsNumberWithin limits a

limit_cases : (limits b : Bounds) (x : Var) (up : Bool) (k : ℤ) → IsBoxOf limits b → IsLimit limits b (at_bound_of limits (record { var = x; at_least = up; k = k }))
limit_cases limits b x true k place = record { met = le_is_true (lower_of limits x.0) (lower_of b x.0) (place.inside x.0).0; within = le_is_true (lower_of limits x.0) (lower_of limits x.0) (≤ℤ_refl (lower_of limits x.0)) }
limit_cases limits b x false k place = record { met = le_is_true (upper_of b x.0) (upper_of limits x.0) (place.inside x.0).1; within = le_is_true (upper_of limits x.0) (upper_of limits x.0) (≤ℤ_refl (upper_of limits x.0)) }

pub limit_holds : (limits b : Bounds) (a : Atom) → IsBoxOf limits b → IsLimit limits b (at_bound_of limits a)
limit_holds limits b a place = limit_cases limits b a.var a.at_least a.k place

-- a box of the limits lies in them
pub box_inside : (limits b : Bounds) → length limits.upper ≡ length limits.lower → IsBoxOf limits b → IsSmaller b limits
box_inside limits b even place = record { lower_count = place.lower_count; upper_count = place.upper_count ∙ sym even; inside = place.inside }
