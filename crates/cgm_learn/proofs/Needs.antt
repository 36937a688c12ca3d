-- What a clause and a row need: bounds that are added to those needed, and what narrowing gives by them.
use Rattle.std.proofs.Common.{◌≡◌, ℕ, zero, suc, ◌+◌, ◌<◌, ◌≤◌, ◌⊎◌, inl, inr, Bool, true, false, not, cond, List, [], ◌∷◌, length, refl, ap, sym, ◌∙◌, subst, arith, length-set}
use Rattle.std.specs.Prelude.{ℤ, pos, ◌+ℤ◌, ◌-ℤ◌, ◌≤ℤ◌, ◌<ℤ◌, int_le, int_lt, slice_get, if◌then◌else◌, IfSome, IsSomeAnd}
use Rattle.std.specs.declared.option.Option.{Option}
use Rattle.std.specs.declared.option.Option.TheVariants.{Some, None}
use Rattle.std.specs.Int.{int_max, int_min}
use Rattle.std.specs.List.{All, filter}
use Rattle.std.proofs.lemmas.Bool.{cases_eq, cases_lt}
use Rattle.std.proofs.lemmas.Int.{ints, clamps}
use Rattle.std.proofs.lemmas.List.{get_or-set_other, get_or-set_same}
use Rattle.std.proofs.lemmas.Option.{get_or_from_slice_get}
use Rattle.std.proofs.lemmas.List.Elements.{All-cons, All-head, All-nil, All-tail}
use Rattle.cgm_atom.specs.declared.constraints.Atom.{Atom}
use Rattle.cgm_atom.specs.declared.constraints.Clause.{Clause}
use Rattle.cgm_atom.specs.declared.constraints.Var.{Var}
use Rattle.cgm_atom.specs.Atoms.{negation}
use Rattle.cgm_atom.specs.Bounds.{Bounds, IsBoxOf, AreProperBounds, lower_of, upper_of}
use Rattle.cgm_atom.specs.ClauseAtoms.{AreKnown, left_in}
use Rattle.cgm_atom.specs.Laws.{IsSmaller}
use Rattle.cgm_atom.specs.Narrowing.{is_false_in, is_true_in, left_by_atoms, left_by_clause, made_true, raised, reduced}
use Rattle.cgm_atom.proofs.Assuming.{value_of-set}
use Rattle.cgm_atom.proofs.Shrinking.{IsSmaller-same, IsSmaller-trans, false_in_smaller, made_true_shrinks}
use Rattle.cgm_atom.proofs.SignedSteps.{le_is_true, ≤ℤ_trans}
use Rattle.cgm_trail.proofs.Replaying.{box_of_itself}
use Rattle.cgm_learn.specs.Walking.{IsExplained}
use Rattle.cgm_learn.proofs.Boxes.{false_made, read_le, read_lt, read_not_le}

-- ---- an atom that is added

both_cases : (lo hi k : ℤ) (t : Bool) → lo ≤ℤ hi → cond t (int_le k lo) (int_le hi k) ≡ true → cond t (int_lt hi k) (int_lt k lo) ≡ true → ⊥
both_cases lo hi k true o h g = let a = read_le k lo h in let b = read_lt hi k g in omega (arith, ints, a, b, o)
both_cases lo hi k false o h g = let a = read_le hi k h in let b = read_lt k lo g in omega (arith, ints, a, b, o)

-- no atom is both true and false in a box in order
pub not_both : (b : Bounds) (a : Atom) → AreProperBounds b → is_true_in b a ≡ true → is_false_in b a ≡ true → ⊥
not_both b a proper h g = both_cases (lower_of b a.var.0) (upper_of b a.var.0) a.k a.at_least (proper.ordered a.var.0) h g

max_below : (lo k v : ℤ) → lo ≤ℤ v → k ≤ℤ v → int_max lo k ≤ℤ v
max_below lo k v h g = omega (arith, ints, clamps)

min_above : (hi k v : ℤ) → v ≤ℤ hi → v ≤ℤ k → v ≤ℤ int_min hi k
min_above hi k v h g = omega (arith, ints, clamps)

added_cases : (work need : Bounds) (x : ℕ) (k : ℤ) (t : Bool) → IsSmaller work need → cond t (int_le k (lower_of work x)) (int_le (upper_of work x) k) ≡ true → IsSmaller work (cond t (raised need x k) (reduced need x k))
added_cases work need x k true h holds = record {
  lower_count = h.lower_count ∙ sym (length-set need.lower x _);
  upper_count = h.upper_count;
  inside = λ y. (
    value_of-set (λ v. v ≤ℤ lower_of work y) need.lower x y (int_max (lower_of need x) k) (h.inside y).0
        (λ e. subst (λ z. int_max (lower_of need x) k ≤ℤ lower_of work z) (sym e) (max_below (lower_of need x) k (lower_of work x) (h.inside x).0 (read_le k (lower_of work x) holds))),
    (h.inside y).1,
  );
}
added_cases work need x k false h holds = record {
  lower_count = h.lower_count;
  upper_count = h.upper_count ∙ sym (length-set need.upper x _);
  inside = λ y. (
    (h.inside y).0,
    value_of-set (λ v. upper_of work y ≤ℤ v) need.upper x y (int_min (upper_of need x) k) (h.inside y).1
        (λ e. subst (λ z. upper_of work z ≤ℤ int_min (upper_of need x) k) (sym e) (min_above (upper_of need x) k (upper_of work x) (h.inside x).1 (read_le (upper_of work x) k holds))),
  );
}

-- a true atom that is added keeps the box inside
pub added_inside : (work need : Bounds) (a : Atom) → IsSmaller work need → is_true_in work a ≡ true → IsSmaller work (made_true need a)
added_inside work need a h holds = added_cases work need a.var.0 a.k a.at_least h holds

added_by : (work need new : Bounds) (a : Atom) (answer f : Bool) → AreProperBounds work → IsSmaller work need → is_true_in work a ≡ true → is_false_in need a ≡ f → answer ≡ not f → new ≡ (if answer then made_true need a else need) → new ≡ made_true need a
added_by work need new a answer true proper h holds e g n = absurd (not_both work a proper holds (false_in_smaller work need a h e))
added_by work need new a true false proper h holds e g n = n
added_by work need new a false false proper h holds e g n = absurd (cc)

-- it can be added
pub added : (work need new : Bounds) (a : Atom) (answer : Bool) → AreProperBounds work → IsSmaller work need → is_true_in work a ≡ true → answer ≡ not (is_false_in need a) → new ≡ (if answer then made_true need a else need) → new ≡ made_true need a
added work need new a answer proper h holds g n = added_by work need new a answer (is_false_in need a) proper h holds refl g n

pub explained_same : (limits work need : Bounds) → IsSmaller work need → IsBoxOf limits need → IsExplained limits work need need
explained_same limits work need h box = record { inside = h; more = IsSmaller-same need; within = box }

pub explained_added : (limits work need new : Bounds) (a : Atom) → IsSmaller work need → is_true_in work a ≡ true → new ≡ made_true need a → IsBoxOf limits new → IsExplained limits work need new
explained_added limits work need new a h holds e box =
    record { inside = rw e (added_inside work need a h holds); more = rw e (made_true_shrinks need a); within = box }

pub explained_then : (limits work old mid new : Bounds) → IsExplained limits work old mid → IsExplained limits work mid new → IsExplained limits work old new
explained_then limits work old mid new h k = record { inside = k.inside; more = IsSmaller-trans new mid old k.more h.more; within = k.within }

true_opposite_cases : (b : Bounds) (x : Var) (up : Bool) (k : ℤ) → is_false_in b (record { var = x; at_least = up; k = k }) ≡ true → is_true_in b (negation (record { var = x; at_least = up; k = k })) ≡ true
true_opposite_cases b x true k h = le_is_true (upper_of b x.0) (k -ℤ pos 1) (let a = read_lt (upper_of b x.0) k h in omega (arith, ints, a))
true_opposite_cases b x false k h = le_is_true (k +ℤ pos 1) (lower_of b x.0) (let a = read_lt k (lower_of b x.0) h in omega (arith, ints, a))

-- the negation of a false atom is true
pub true_opposite : (b : Bounds) (a : Atom) → is_false_in b a ≡ true → is_true_in b (negation a) ≡ true
true_opposite b a h = true_opposite_cases b a.var a.at_least a.k h

pub falsified_by : (work need new : Bounds) (a n : Atom) → AreProperBounds work → IsSmaller work need → a.var.0 < length work.lower → n ≡ negation a → new ≡ made_true need n → is_false_in new a ≡ true
falsified_by work need new a n proper h known e f =
    rw (f, e) (false_made need a (omega (arith, known, h.lower_count)) (omega (arith, h.lower_count, h.upper_count, proper.same_count)))

-- ---- a clause

-- the first atoms are false in the needed box where they are in the box
abbrev pub AreFalsified : Bounds → Bounds → List Atom → ℕ → Type 0
AreFalsified work need atoms n = (k : ℕ) (a : Atom) → k < n → slice_get atoms k ≡ Some a → is_false_in work a ≡ true → is_false_in need a ≡ true

pub falsified_none : (work need : Bounds) (atoms : List Atom) → AreFalsified work need atoms 0
falsified_none work need atoms k a below found e = absurd (omega (arith, below))

same_some : (a a' : Atom) (o : Option Atom) → o ≡ Some a → o ≡ Some a' → a ≡ a'
same_some a a' o e f = cc

falsified_next : (work need new : Bounds) (atoms : List Atom) (n k : ℕ) (x a : Atom) → (k < n) ⊎ (n ≤ k) → k < n + 1 → AreFalsified work need atoms n → IsSmaller new need → slice_get atoms n ≡ Some x → (is_false_in work x ≡ true → is_false_in new x ≡ true) → slice_get atoms k ≡ Some a → is_false_in work a ≡ true → is_false_in new a ≡ true
falsified_next work need new atoms n k x a (inl less) below far smaller at here found e = false_in_smaller new need a smaller (far k a less found e)
falsified_next work need new atoms n k x a (inr more) below far smaller at here found e =
    let place : k ≡ n = omega (arith, more, below) in
    let same : a ≡ x = same_some a x (slice_get atoms k) found (ap (slice_get atoms) place ∙ at) in
    ap (is_false_in new) same ∙ here (sym (ap (is_false_in work) same) ∙ e)

pub falsified_more : (work need new : Bounds) (atoms : List Atom) (n : ℕ) (x : Atom) → AreFalsified work need atoms n → IsSmaller new need → slice_get atoms n ≡ Some x → (is_false_in work x ≡ true → is_false_in new x ≡ true) → AreFalsified work new atoms (n + 1)
falsified_more work need new atoms n x far smaller at here k a below found e = falsified_next work need new atoms n k x a (cases_lt k n) below far smaller at here found e

same_false : (s t : Bool) → (s ≡ true → t ≡ true) → (t ≡ true → s ≡ true) → s ≡ t
same_false true true h k = refl
same_false true false h k = sym (h refl)
same_false false true h k = k refl
same_false false false h k = refl

left_cons : (f g : Atom → Bool) (a : Atom) (atoms : List Atom) → f a ≡ g a → filter f atoms ≡ filter g atoms → filter f (a ∷ atoms) ≡ filter g (a ∷ atoms)
left_cons f g a atoms e h = rw (e, h) refl

left_same : (work need : Bounds) (atoms : List Atom) → IsSmaller work need → ((k : ℕ) (a : Atom) → slice_get atoms k ≡ Some a → is_false_in work a ≡ true → is_false_in need a ≡ true) → left_in need atoms ≡ left_in work atoms
left_same work need [] h each = refl
left_same work need (a ∷ atoms) h each =
    left_cons (λ x. not (is_false_in need x)) (λ x. not (is_false_in work x)) a atoms
    (ap not (same_false (is_false_in need a) (is_false_in work a) (false_in_smaller work need a h) (each 0 a refl)))
    (left_same work need atoms h (λ k x found. each (suc k) x found))

within_list : (atoms : List Atom) (k : ℕ) (a : Atom) → slice_get atoms k ≡ Some a → k < length atoms
within_list [] k a e = absurd (cc)
within_list (x ∷ atoms) zero a e = omega arith
within_list (x ∷ atoms) (suc k) a e = let h = within_list atoms k a e in omega (arith, h)

-- what isn't false in the needed box is what isn't false in the box
pub left_alike : (work need : Bounds) (atoms : List Atom) (n : ℕ) → IsSmaller work need → length atoms ≤ n → AreFalsified work need atoms n → left_in need atoms ≡ left_in work atoms
left_alike work need atoms n h all far = left_same work need atoms h (λ k a found e. far k a (let w = within_list atoms k a found in omega (arith, w, all)) found e)

none_of_atoms : (b : Bounds) (atoms : List Atom) → left_by_atoms b atoms ≡ None → atoms ≡ []
none_of_atoms b [] e = refl
none_of_atoms b (a ∷ []) e = absurd (cc)
none_of_atoms b (a ∷ a' ∷ atoms) e = absurd (cc)

-- a clause in conflict with the box is in conflict with the needed one
pub clause_conflict : (work need : Bounds) (c : Clause) → left_by_clause work c ≡ None → left_in need c.atoms ≡ left_in work c.atoms → left_by_clause need c ≡ None
unfolding left_by_clause
clause_conflict work need c e same = ap (left_by_atoms need) (same ∙ none_of_atoms work (left_in work c.atoms) e)

all_left_by : (P : Atom → Type 0) (test : Bool) (a : Atom) (left : List Atom) → P a → All P left → All P (cond test (a ∷ left) left)
all_left_by P true a left h k = All-cons P a left h k
all_left_by P false a left h k = k

all_left : (P : Atom → Type 0) (test : Atom → Bool) (atoms : List Atom) → All P atoms → All P (filter test atoms)
all_left P test [] h = All-nil P
all_left P test (a ∷ atoms) h = all_left_by P (test a) a (filter test atoms) (All-head P a atoms h) (all_left P test atoms (All-tail P a atoms h))

max_reaches : (lo k r : ℤ) → r ≤ℤ int_max lo k → lo <ℤ r → r ≤ℤ k
max_reaches lo k r h g = omega (arith, ints, clamps)

min_reaches : (hi k r : ℤ) → int_min hi k ≤ℤ r → r <ℤ hi → k ≤ℤ r
min_reaches hi k r h g = omega (arith, ints, clamps)

up_to_max : (lo k r : ℤ) → r ≤ℤ k → r ≤ℤ int_max lo k
up_to_max lo k r h = omega (arith, ints, clamps)

down_to_min : (hi k r : ℤ) → k ≤ℤ r → int_min hi k ≤ℤ r
down_to_min hi k r h = omega (arith, ints, clamps)

raised_here : (b b' : Bounds) (x y : ℕ) (k r : ℤ) → (y ≡ x) ⊎ (y ≡ x → ⊥) → x < length b.lower → x < length b'.lower → int_le r (lower_of (raised b x k) y) ≡ true → int_le r (lower_of b y) ≡ false → int_le r (lower_of (raised b' x k) y) ≡ true
raised_here b b' x y k r (inl e) known known' h g =
    subst (λ z. int_le r (lower_of (raised b' x k) z) ≡ true) (sym e)
    (le_is_true r (lower_of (raised b' x k) x)
    (subst (λ v. r ≤ℤ v) (sym (get_or-set_same b'.lower x (int_max (lower_of b' x) k) (pos 0) known'))
    (up_to_max (lower_of b' x) k r
    (max_reaches (lower_of b x) k r
    (subst (λ v. r ≤ℤ v) (get_or-set_same b.lower x (int_max (lower_of b x) k) (pos 0) known) (subst (λ z. r ≤ℤ lower_of (raised b x k) z) e (read_le r (lower_of (raised b x k) y) h)))
    (subst (λ z. lower_of b z <ℤ r) e (read_not_le r (lower_of b y) g))))))
raised_here b b' x y k r (inr d) known known' h g =
    let same = get_or-set_other b.lower x y (int_max (lower_of b x) k) (pos 0) d in
    let now = ap (int_le r) (sym same) ∙ h in
    absurd (cc)

reduced_here : (b b' : Bounds) (x y : ℕ) (k r : ℤ) → (y ≡ x) ⊎ (y ≡ x → ⊥) → x < length b.upper → x < length b'.upper → int_le (upper_of (reduced b x k) y) r ≡ true → int_le (upper_of b y) r ≡ false → int_le (upper_of (reduced b' x k) y) r ≡ true
reduced_here b b' x y k r (inl e) known known' h g =
    subst (λ z. int_le (upper_of (reduced b' x k) z) r ≡ true) (sym e)
    (le_is_true (upper_of (reduced b' x k) x) r
    (subst (λ v. v ≤ℤ r) (sym (get_or-set_same b'.upper x (int_min (upper_of b' x) k) (pos 0) known'))
    (down_to_min (upper_of b' x) k r
    (min_reaches (upper_of b x) k r
    (subst (λ v. v ≤ℤ r) (get_or-set_same b.upper x (int_min (upper_of b x) k) (pos 0) known) (subst (λ z. upper_of (reduced b x k) z ≤ℤ r) e (read_le (upper_of (reduced b x k) y) r h)))
    (subst (λ z. r <ℤ upper_of b z) e (read_not_le (upper_of b y) r g))))))
reduced_here b b' x y k r (inr d) known known' h g =
    let same = get_or-set_other b.upper x y (int_min (upper_of b x) k) (pos 0) d in
    let now = ap (λ v. int_le v r) (sym same) ∙ h in
    absurd (cc)

gives_cases : (b b' : Bounds) (x y : Var) (up up' : Bool) (k r : ℤ) → x.0 < length b.lower → x.0 < length b.upper → x.0 < length b'.lower → x.0 < length b'.upper
    → is_true_in (made_true b (record { var = x; at_least = up; k = k })) (record { var = y; at_least = up'; k = r }) ≡ true
    → is_true_in b (record { var = y; at_least = up'; k = r }) ≡ false
    → is_true_in (made_true b' (record { var = x; at_least = up; k = k })) (record { var = y; at_least = up'; k = r }) ≡ true
gives_cases b b' x y true true k r known up-known known' up-known' h g = raised_here b b' x.0 y.0 k r (cases_eq y.0 x.0) known known' h g
gives_cases b b' x y true false k r known up-known known' up-known' h g = absurd (cc)
gives_cases b b' x y false true k r known up-known known' up-known' h g = absurd (cc)
gives_cases b b' x y false false k r known up-known known' up-known' h g = reduced_here b b' x.0 y.0 k r (cases_eq y.0 x.0) up-known up-known' h g

-- where making one atom true makes another true, it does so in each box
pub made_gives : (b b' : Bounds) (u a : Atom) → AreProperBounds b → IsSmaller b b' → u.var.0 < length b.lower → is_true_in (made_true b u) a ≡ true → is_true_in b a ≡ false → is_true_in (made_true b' u) a ≡ true
made_gives b b' u a proper h known e f =
    gives_cases b b' u.var a.var u.at_least a.at_least u.k a.k known (omega (arith, known, proper.same_count)) (omega (arith, known, h.lower_count)) (omega (arith, known, proper.same_count, h.upper_count)) e f

atoms_give : (work need : Bounds) (atoms : List Atom) (a : Atom) → AreProperBounds work → IsSmaller work need → AreKnown (length work.lower) atoms → is_true_in work a ≡ false → IsSomeAnd (left_by_atoms work atoms) (λ left. is_true_in left a ≡ true) → IfSome (left_by_atoms need atoms) (λ left. is_true_in left a ≡ true)
atoms_give work need [] a proper h known unmet given = absurd given
atoms_give work need (u ∷ []) a proper h known unmet given = made_gives work need u a proper h (All-head (λ x. x.var.0 < length work.lower) u [] known) given unmet
atoms_give work need (u ∷ v ∷ atoms) a proper h known unmet given = absurd (cc)

-- a clause that gives an atom in the box gives it in the needed one
pub clause_gives : (work need : Bounds) (c : Clause) (a : Atom) → AreProperBounds work → IsSmaller work need → AreKnown (length work.lower) c.atoms → is_true_in work a ≡ false → left_in need c.atoms ≡ left_in work c.atoms → IsSomeAnd (left_by_clause work c) (λ left. is_true_in left a ≡ true) → IfSome (left_by_clause need c) (λ left. is_true_in left a ≡ true)
unfolding left_by_clause
clause_gives work need c a proper h known unmet same given =
    subst (λ xs. IfSome (left_by_atoms need xs) (λ left. is_true_in left a ≡ true)) (sym same)
    (atoms_give work need (left_in work c.atoms) a proper h (all_left (λ x. x.var.0 < length work.lower) (λ x. not (is_false_in work x)) c.atoms known) unmet given)

-- ---- one atom of a clause after another

pub known_at : (n : ℕ) (atoms : List Atom) (i : ℕ) (a : Atom) → AreKnown n atoms → slice_get atoms i ≡ Some a → a.var.0 < n
known_at n atoms i a known found =
    subst (λ (x : Atom). x.var.0 < n) (get_or_from_slice_get atoms i a a found) (known i a (within_list atoms i a found))

-- a box that a proper one lies in is proper
pub proper_larger : (work need : Bounds) → AreProperBounds work → IsSmaller work need → AreProperBounds need
proper_larger work need proper h = record {
  same_count = sym h.upper_count ∙ proper.same_count ∙ h.lower_count;
  ordered = λ x. ≤ℤ_trans (lower_of need x) (lower_of work x) (upper_of need x) (h.inside x).0 (≤ℤ_trans (lower_of work x) (upper_of work x) (upper_of need x) (proper.ordered x) (h.inside x).1);
}

pub proper_of : (limits b : Bounds) → IsBoxOf limits b → AreProperBounds b
proper_of limits b box = record { same_count = box.upper_count ∙ sym box.lower_count; ordered = box.ordered }

-- what has been added so far
pub record IsClauseSoFar (work old now : Bounds) (atoms : List Atom) (n : ℕ) : Type 0 where
  pub inside : IsSmaller work now
  pub explained : (limits : Bounds) → IsBoxOf limits old → IsExplained limits work old now
  pub falsified : AreFalsified work now atoms n

pub clause_begins : (work need : Bounds) (atoms : List Atom) → IsSmaller work need → IsClauseSoFar work need need atoms 0
clause_begins work need atoms h = record {
  inside = h;
  explained = λ limits box. explained_same limits work need h box;
  falsified = falsified_none work need atoms;
}

pub clause_steps : (work old now new : Bounds) (atoms : List Atom) (n : ℕ) (a : Atom) → AreProperBounds work → IsClauseSoFar work old now atoms n → slice_get atoms n ≡ Some a → (is_false_in work a ≡ true → is_false_in new a ≡ true) → ((limits : Bounds) → IsBoxOf limits now → IsExplained limits work now new) → IsClauseSoFar work old new atoms (n + 1)
clause_steps work old now new atoms n a proper far found falsified explained =
    let own = explained now (box_of_itself now (proper_larger work now proper far.inside)) in
    record {
      inside = own.inside;
      explained = λ limits box. let mid = far.explained limits box in explained_then limits work old now new mid (explained limits mid.within);
      falsified = falsified_more work now new atoms n a far.falsified own.more found falsified;
    }
