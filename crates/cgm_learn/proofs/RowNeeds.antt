-- What a row needs: its guard, and for each term how far its bound may be out.
use Rattle.std.proofs.Common.{◌≡◌, ◌≢◌, ℕ, zero, suc, ◌+◌, ◌-◌, ◌*◌, ◌/◌, min, ◌<◌, ◌≤◌, Bool, true, false, not, cond, List, [], ◌∷◌, length, get_or, drop, refl, ap, sym, ◌∙◌, subst, arith}
use Rattle.std.specs.Prelude.{ℤ, pos, negsuc, ◌+ℤ◌, ◌-ℤ◌, ◌*ℤ◌, ◌≤ℤ◌, ◌<ℤ◌, int_le, int_lt, unsigned_abs, ◌==◌, IfSome}
use Rattle.std.specs.declared.option.Option.{Option}
use Rattle.std.specs.declared.option.Option.TheVariants.{Some, None}
use Rattle.std.specs.Int.{int_max, int_min}
use Rattle.std.proofs.lemmas.Bool.{eq-eqb, eqb-true, false≢true}
use Rattle.std.proofs.lemmas.Int.{ints, clamps}
use Rattle.std.proofs.lemmas.List.{get_or-set_other, get_or-set_same, drop_all}
use Rattle.std.proofs.Math.Nat.{mul-le-mul_left, div-add-mod}
use borrow.Author.Differences.{up, down}
use Rattle.cgm_atom.specs.declared.constraints.Atom.{Atom}
use Rattle.cgm_atom.specs.declared.constraints.Var.{Var}
use Rattle.cgm_atom.specs.Bounds.{Bounds, IsBoxOf, AreProperBounds, lower_of, upper_of}
use Rattle.cgm_atom.specs.Laws.{IsSmaller}
use Rattle.cgm_atom.specs.Limits.{AreTermsOf}
use Rattle.cgm_atom.specs.Narrowing.{greatest_activity, greatest_term, is_true_in, made_true, raised, reduced}
use Rattle.cgm_atom.proofs.Shrinking.{IsSmaller-trans, term_smaller}
use Rattle.cgm_atom.specs.Steps.{AreBounds}
use Rattle.cgm_atom.proofs.Tightening.{AreBounds-inside}
use Rattle.cgm_atom.proofs.SignedSteps.{le_is_true, lt_is_false, lt_is_true, scaled_down, scaled_up, sum_at_most, ≤ℤ_refl, ≤ℤ_trans}
use Rattle.cgm_trail.specs.TrailState.{IsOpenIn}
use Rattle.cgm_trail.proofs.Replaying.{box_of_itself}
use Rattle.cgm_learn.specs.Terms.{HoldsIn, box_with, far_atom, far_bound, is_far_of, is_left_out}
use Rattle.cgm_learn.specs.Walking.{IsExplained, IsExplainedIn, IsNeedOf}
use Rattle.cgm_learn.proofs.Boxes.{read_le, read_not_le}
use Rattle.cgm_learn.proofs.Needs.{explained_same, explained_then, proper_larger}

-- ---- an atom that is made true

made_true_cases : (b : Bounds) (x : Var) (up' : Bool) (k : ℤ) → x.0 < length b.lower → x.0 < length b.upper → is_true_in (made_true b (record { var = x; at_least = up'; k = k })) (record { var = x; at_least = up'; k = k }) ≡ true
made_true_cases b x true k known known' =
    rw (get_or-set_same b.lower x.0 (int_max (lower_of b x.0) k) (pos 0) known) (le_is_true k (int_max (lower_of b x.0) k) (omega (arith, ints, clamps)))
made_true_cases b x false k known known' =
    rw (get_or-set_same b.upper x.0 (int_min (upper_of b x.0) k) (pos 0) known') (le_is_true (int_min (upper_of b x.0) k) k (omega (arith, ints, clamps)))

-- is true
pub made_holds : (b : Bounds) (a : Atom) → a.var.0 < length b.lower → length b.upper ≡ length b.lower → is_true_in (made_true b a) a ≡ true
made_holds b a known even = made_true_cases b a.var a.at_least a.k known (omega (arith, known, even))

max_above : (l k : ℤ) → k ≤ℤ int_max l k
max_above l k = omega (arith, ints, clamps)

min_below : (u k : ℤ) → int_min u k ≤ℤ k
min_below u k = omega (arith, ints, clamps)

pub not_negative : (n : ℕ) → int_lt (pos n) (pos 0) ≡ false
not_negative n = lt_is_false (pos n) (pos 0) (omega (arith, ints))

negative_pos : (n : ℕ) → int_lt (pos n) (pos 0) ≡ true → ⊥
negative_pos n e = let f = not_negative n in absurd (cc)

positive_neg : (n : ℕ) → int_lt (negsuc n) (pos 0) ≡ false → ⊥
positive_neg n e = let t = lt_is_true (negsuc n) (pos 0) (omega (arith, ints)) in absurd (cc)

pub negative_is : (n : ℕ) → int_lt (negsuc n) (pos 0) ≡ true
negative_is n = lt_is_true (negsuc n) (pos 0) (omega (arith, ints))

-- ---- what a slack affords

pub affords : (slack size most r : ℕ) → 0 < size → r ≡ min (slack / size) most → r * size ≤ slack
affords slack zero most r h e = absurd (omega (arith, h))
affords slack (suc n) most r h e =
    let less : r ≤ slack / suc n = omega (arith, e) in
    let scaled : suc n * r ≤ suc n * (slack / suc n) = mul-le-mul_left (suc n) less in
    omega (arith, scaled, div-add-mod slack (suc n))

-- ---- one term

sum_up : (n by left slack : ℕ) (w m : ℤ) → m ≤ℤ (w +ℤ pos by) → by * n + left ≡ slack → ((pos n *ℤ m) +ℤ pos left) ≤ℤ ((pos n *ℤ w) +ℤ pos slack)
sum_up n by left slack w m h e =
    let less : up m + down w ≤ up w + by + down m = omega (arith, ints) in
    let scaled : n * (up m + down w) ≤ n * (up w + by + down m) = mul-le-mul_left n less in
    omega (arith, ints, scaled, e)

sum_down : (n by left slack : ℕ) (w m : ℤ) → (w -ℤ pos by) ≤ℤ m → by * suc n + left ≡ slack → ((negsuc n *ℤ m) +ℤ pos left) ≤ℤ ((negsuc n *ℤ w) +ℤ pos slack)
sum_down n by left slack w m h e =
    let less : up w + down m ≤ up m + by + down w = omega (arith, ints) in
    let scaled : suc n * (up w + down m) ≤ suc n * (up m + by + down w) = mul-le-mul_left (suc n) less in
    omega (arith, ints, scaled, e)

negative_term : (b : Bounds) (n x : ℕ) → greatest_term b (negsuc n) x ≡ negsuc n *ℤ lower_of b x
negative_term b n x = refl

term_sum_up : (work need : Bounds) (n : ℕ) (x : Var) (by left slack : ℕ) (s : Bool) → s ≡ false → ((pos n *ℤ upper_of (reduced need x.0 (upper_of work x.0 +ℤ pos by)) x.0) +ℤ pos left) ≤ℤ ((pos n *ℤ upper_of work x.0) +ℤ pos slack)
    → (cond s (pos n *ℤ lower_of (made_true need (record { var = x; at_least = s; k = cond s (cond s (lower_of work x.0) (upper_of work x.0) -ℤ pos by) (cond s (lower_of work x.0) (upper_of work x.0) +ℤ pos by) })) x.0) (pos n *ℤ upper_of (made_true need (record { var = x; at_least = s; k = cond s (cond s (lower_of work x.0) (upper_of work x.0) -ℤ pos by) (cond s (lower_of work x.0) (upper_of work x.0) +ℤ pos by) })) x.0) +ℤ pos left)
    ≤ℤ (cond s (pos n *ℤ lower_of work x.0) (pos n *ℤ upper_of work x.0) +ℤ pos slack)
term_sum_up work need n x by left slack true e h = absurd (false≢true (sym e))
term_sum_up work need n x by left slack false e h = h

-- the greatest value of a term, where its bound has been moved out by what the slack affords
pub term_sum : (work need : Bounds) (c : ℤ) (x : Var) (by left slack : ℕ) → x.0 < length need.lower → length need.upper ≡ length need.lower → by * unsigned_abs c + left ≡ slack
    → (greatest_term (made_true need (far_atom (c, x) (far_bound work (c, x)) by)) c x.0 +ℤ pos left) ≤ℤ (greatest_term work c x.0 +ℤ pos slack)
term_sum work need (pos n) x by left slack known even e =
    let known' : x.0 < length need.upper = omega (arith, known, even) in
    term_sum_up work need n x by left slack (int_lt (pos n) (pos 0)) (not_negative n)
    (sum_up n by left slack (upper_of work x.0) (upper_of (reduced need x.0 (upper_of work x.0 +ℤ pos by)) x.0)
    (subst (λ v. v ≤ℤ (upper_of work x.0 +ℤ pos by)) (sym (get_or-set_same need.upper x.0 (int_min (upper_of need x.0) (upper_of work x.0 +ℤ pos by)) (pos 0) known')) (min_below (upper_of need x.0) (upper_of work x.0 +ℤ pos by))) e)
term_sum work need (negsuc n) x by left slack known even e =
    sum_down n by left slack (lower_of work x.0) (lower_of (raised need x.0 (lower_of work x.0 -ℤ pos by)) x.0)
    (subst (λ v. (lower_of work x.0 -ℤ pos by) ≤ℤ v) (sym (get_or-set_same need.lower x.0 (int_max (lower_of need x.0) (lower_of work x.0 -ℤ pos by)) (pos 0) known)) (max_above (lower_of need x.0) (lower_of work x.0 -ℤ pos by))) e

far_true_cases : (b : Bounds) (x : Var) (t : Bool) (by : ℕ) → is_true_in b (record { var = x; at_least = t; k = cond t (cond t (lower_of b x.0) (upper_of b x.0) -ℤ pos by) (cond t (lower_of b x.0) (upper_of b x.0) +ℤ pos by) }) ≡ true
far_true_cases b x true by = le_is_true (lower_of b x.0 -ℤ pos by) (lower_of b x.0) (omega (arith, ints))
far_true_cases b x false by = le_is_true (upper_of b x.0) (upper_of b x.0 +ℤ pos by) (omega (arith, ints))

-- the moved bound holds in the box
pub far_holds : (b : Bounds) (t : ℤ × Var) (by : ℕ) → is_true_in b (far_atom t (far_bound b t) by) ≡ true
far_holds b t by = far_true_cases b t.1 (int_lt t.0 (pos 0)) by

-- ---- the bound that is left out

-- the greatest value of a term by its sign
term_by : (b : Bounds) (c : ℤ) (x : ℕ) (s : Bool) → int_lt c (pos 0) ≡ s → greatest_term b c x ≡ cond s (c *ℤ lower_of b x) (c *ℤ upper_of b x)
term_by b c x s e = ap (λ (t : Bool). cond t (c *ℤ lower_of b x) (c *ℤ upper_of b x)) e

eqb_apart : (m n : ℕ) → (m == n) ≡ false → n ≢ m
eqb_apart m n e h = let same = eq-eqb m n (sym h) in absurd (cc)

unmoved_cases : (b : Bounds) (c : ℤ) (x y : ℕ) (u s : Bool) (k : ℤ) → cond (cond s u (not u)) (y == x) false ≡ false → cond s (c *ℤ lower_of (cond u (raised b y k) (reduced b y k)) x) (c *ℤ upper_of (cond u (raised b y k) (reduced b y k)) x) ≡ cond s (c *ℤ lower_of b x) (c *ℤ upper_of b x)
unmoved_cases b c x y true true k e = ap (λ v. c *ℤ v) (get_or-set_other b.lower y x (int_max (lower_of b y) k) (pos 0) (eqb_apart y x e))
unmoved_cases b c x y true false k e = refl
unmoved_cases b c x y false true k e = refl
unmoved_cases b c x y false false k e = ap (λ v. c *ℤ v) (get_or-set_other b.upper y x (int_min (upper_of b y) k) (pos 0) (eqb_apart y x e))

-- making an atom true that doesn't speak of a term's bound keeps its greatest value
pub unmoved_by : (b : Bounds) (c : ℤ) (x : ℕ) (a : Atom) (s : Bool) → int_lt c (pos 0) ≡ s → cond (cond s a.at_least (not a.at_least)) (a.var.0 == x) false ≡ false → greatest_term (made_true b a) c x ≡ greatest_term b c x
unmoved_by b c x a s e h =
    term_by (made_true b a) c x s e ∙ unmoved_cases b c x a.var.0 a.at_least s a.k h ∙ sym (term_by b c x s e)

pub unmoved : (b : Bounds) (t : ℤ × Var) (a : Atom) → is_far_of t a ≡ false → greatest_term (made_true b a) t.0 t.1.0 ≡ greatest_term b t.0 t.1.0
unmoved b t a h = unmoved_by b t.0 t.1.0 a (int_lt t.0 (pos 0)) refl h

pub unmoved_with : (b : Bounds) (t : ℤ × Var) (own : Option Atom) → is_left_out own t ≡ false → greatest_term (box_with b own) t.0 t.1.0 ≡ greatest_term b t.0 t.1.0
unmoved_with b t None h = refl
unmoved_with b t (Some a) h = unmoved b t a h

-- in a box in which the atom is true, the term whose bound it speaks of is at most what it is where the atom is made true
max_is : (l k : ℤ) → l <ℤ k → int_max l k ≡ k
max_is l k h = omega (arith, ints, clamps)

min_is : (u k : ℤ) → k <ℤ u → int_min u k ≡ k
min_is u k h = omega (arith, ints, clamps)

scaled_down_by : (c : ℤ) (a b : ℤ) → int_lt c (pos 0) ≡ true → a ≤ℤ b → (c *ℤ b) ≤ℤ (c *ℤ a)
scaled_down_by (pos n) a b e h = absurd (negative_pos n e)
scaled_down_by (negsuc n) a b e h = scaled_down n a b h

scaled_up_by : (c : ℤ) (a b : ℤ) → int_lt c (pos 0) ≡ false → a ≤ℤ b → (c *ℤ a) ≤ℤ (c *ℤ b)
scaled_up_by (pos n) a b e h = scaled_up n a b h
scaled_up_by (negsuc n) a b e h = absurd (positive_neg n e)

moved_cases : (b work : Bounds) (c : ℤ) (y : ℕ) (u s : Bool) (k : ℤ) → int_lt c (pos 0) ≡ s → cond s u (not u) ≡ true → y < length work.lower → y < length work.upper
    → cond u (int_le k (lower_of work y)) (int_le (upper_of work y) k) ≡ false
    → cond u (int_le k (lower_of b y)) (int_le (upper_of b y) k) ≡ true
    → cond s (c *ℤ lower_of b y) (c *ℤ upper_of b y) ≤ℤ cond s (c *ℤ lower_of (cond u (raised work y k) (reduced work y k)) y) (c *ℤ upper_of (cond u (raised work y k) (reduced work y k)) y)
moved_cases b work c y true true k e side known known' unmet met =
    subst (λ (v : ℤ). (c *ℤ lower_of b y) ≤ℤ (c *ℤ v)) (sym (get_or-set_same work.lower y (int_max (lower_of work y) k) (pos 0) known ∙ max_is (lower_of work y) k (read_not_le k (lower_of work y) unmet)))
    (scaled_down_by c k (lower_of b y) e (read_le k (lower_of b y) met))
moved_cases b work c y true false k e side known known' unmet met = absurd (cc)
moved_cases b work c y false true k e side known known' unmet met = absurd (cc)
moved_cases b work c y false false k e side known known' unmet met =
    subst (λ (v : ℤ). (c *ℤ upper_of b y) ≤ℤ (c *ℤ v)) (sym (get_or-set_same work.upper y (int_min (upper_of work y) k) (pos 0) known' ∙ min_is (upper_of work y) k (read_not_le (upper_of work y) k unmet)))
    (scaled_up_by c (upper_of b y) k e (read_le (upper_of b y) k met))

pub both_parts : (s t : Bool) → cond s t false ≡ true → (s ≡ true) × (t ≡ true)
both_parts true t e = (refl, e)
both_parts false t e = absurd (cc)

moved_by : (b work : Bounds) (c : ℤ) (x : ℕ) (a : Atom) (s : Bool) → int_lt c (pos 0) ≡ s → cond (cond s a.at_least (not a.at_least)) (a.var.0 == x) false ≡ true → AreProperBounds work → IsOpenIn work a → is_true_in b a ≡ true → greatest_term b c x ≤ℤ greatest_term (made_true work a) c x
moved_by b work c x a s e h proper undecided met =
    let parts = both_parts (cond s a.at_least (not a.at_least)) (a.var.0 == x) h in
    let same : a.var.0 ≡ x = eqb-true a.var.0 x parts.1 in
    let known = undecided.known in
    subst (λ z. greatest_term b c z ≤ℤ greatest_term (made_true work a) c z) same
    (subst (λ (v : ℤ). v ≤ℤ greatest_term (made_true work a) c a.var.0) (sym (term_by b c a.var.0 s e))
    (subst (λ (v : ℤ). cond s (c *ℤ lower_of b a.var.0) (c *ℤ upper_of b a.var.0) ≤ℤ v) (sym (term_by (made_true work a) c a.var.0 s e))
    (moved_cases b work c a.var.0 a.at_least s a.k e parts.0 known (omega (arith, known, proper.same_count)) undecided.not_true met)))

pub moved_with : (b work : Bounds) (t : ℤ × Var) (own : Option Atom) → is_left_out own t ≡ true → AreProperBounds work → IfSome own (IsOpenIn work) → HoldsIn own b → greatest_term b t.0 t.1.0 ≤ℤ greatest_term (box_with work own) t.0 t.1.0
moved_with b work t None h proper undecided met = absurd (cc)
moved_with b work t (Some a) h proper undecided met = moved_by b work t.0 t.1.0 a (int_lt t.0 (pos 0)) refl h proper undecided met

-- ---- the terms so far

-- in each smaller box in which the left out bound holds, the terms so far are at most their greatest values and what was spent
pub record IsRowSoFar (work old now : Bounds) (own : Option Atom) (terms rest : List (ℤ × Var)) (slack left : ℕ) : Type 0 where
  pub inside : IsSmaller work now
  pub explained : (limits : Bounds) → IsBoxOf limits old → IsExplained limits work old now
  pub sum : (b : Bounds) → IsSmaller b now → HoldsIn own b → ((greatest_activity b terms +ℤ greatest_activity (box_with work own) rest) +ℤ pos left) ≤ℤ ((greatest_activity b rest +ℤ greatest_activity (box_with work own) terms) +ℤ pos slack)

same_sum : (a w : ℤ) (s : ℕ) → ((a +ℤ w) +ℤ pos s) ≤ℤ ((a +ℤ w) +ℤ pos s)
same_sum a w s = ≤ℤ_refl ((a +ℤ w) +ℤ pos s)

pub row_begins : (work need : Bounds) (own : Option Atom) (terms : List (ℤ × Var)) (slack : ℕ) → IsSmaller work need → IsRowSoFar work need need own terms terms slack slack
row_begins work need own terms slack h = record {
  inside = h;
  explained = λ limits box. explained_same limits work need h box;
  sum = λ b smaller met. same_sum (greatest_activity b terms) (greatest_activity (box_with work own) terms) slack;
}

-- a term whose bound was moved
pub term_moved : (work new : Bounds) (own : Option Atom) (t : ℤ × Var) (left left' : ℕ) → is_left_out own t ≡ false → (greatest_term new t.0 t.1.0 +ℤ pos left') ≤ℤ (greatest_term work t.0 t.1.0 +ℤ pos left) → (b : Bounds) → IsSmaller b new → HoldsIn own b → (greatest_term b t.0 t.1.0 +ℤ pos left') ≤ℤ (greatest_term (box_with work own) t.0 t.1.0 +ℤ pos left)
term_moved work new own t left left' out sum b smaller met =
    subst (λ (v : ℤ). (greatest_term b t.0 t.1.0 +ℤ pos left') ≤ℤ (v +ℤ pos left)) (sym (unmoved_with work t own out))
    (≤ℤ_trans (greatest_term b t.0 t.1.0 +ℤ pos left') (greatest_term new t.0 t.1.0 +ℤ pos left') (greatest_term work t.0 t.1.0 +ℤ pos left)
    (sum_at_most (greatest_term b t.0 t.1.0) (greatest_term new t.0 t.1.0) (pos left') (pos left') (term_smaller b new t.0 t.1.0 smaller) (≤ℤ_refl (pos left'))) sum)

-- a term whose bound is left out
pub term_passed : (work : Bounds) (own : Option Atom) (t : ℤ × Var) (left : ℕ) → is_left_out own t ≡ true → AreProperBounds work → IfSome own (IsOpenIn work) → (b : Bounds) → HoldsIn own b → (greatest_term b t.0 t.1.0 +ℤ pos left) ≤ℤ (greatest_term (box_with work own) t.0 t.1.0 +ℤ pos left)
term_passed work own t left out proper undecided b met =
    sum_at_most (greatest_term b t.0 t.1.0) (greatest_term (box_with work own) t.0 t.1.0) (pos left) (pos left) (moved_with b work t own out proper undecided met) (≤ℤ_refl (pos left))

next_sum : (a w t b x r : ℤ) (left left' slack : ℕ) → ((a +ℤ (w +ℤ t)) +ℤ pos left) ≤ℤ (((x +ℤ b) +ℤ r) +ℤ pos slack) → (x +ℤ pos left') ≤ℤ (w +ℤ pos left) → ((a +ℤ t) +ℤ pos left') ≤ℤ ((b +ℤ r) +ℤ pos slack)
next_sum a w t b x r left left' slack h k = omega (arith, ints)

pub row_steps : (work old now new : Bounds) (own : Option Atom) (terms rest : List (ℤ × Var)) (t : ℤ × Var) (slack left left' : ℕ) → AreProperBounds work → IsRowSoFar work old now own terms (t ∷ rest) slack left → ((b : Bounds) → IsSmaller b new → HoldsIn own b → (greatest_term b t.0 t.1.0 +ℤ pos left') ≤ℤ (greatest_term (box_with work own) t.0 t.1.0 +ℤ pos left)) → ((limits : Bounds) → IsBoxOf limits now → IsExplained limits work now new) → IsRowSoFar work old new own terms rest slack left'
row_steps work old now new own terms rest t slack left left' proper far sum explained =
    let mine = explained now (box_of_itself now (proper_larger work now proper far.inside)) in
    let under : Bounds = box_with work own in
    record {
      inside = mine.inside;
      explained = λ limits box. let mid = far.explained limits box in explained_then limits work old now new mid (explained limits mid.within);
      sum = λ b smaller met.
          next_sum (greatest_activity b terms) (greatest_term under t.0 t.1.0) (greatest_activity under rest) (greatest_activity b rest) (greatest_term b t.0 t.1.0) (greatest_activity under terms) left left' slack
          (far.sum b (IsSmaller-trans b new now smaller mine.more) met) (sum b smaller met);
    }

-- bounds that stay within their limit
pub sizes_between : (work old now : Bounds) → AreProperBounds work → AreBounds old → IsSmaller work old → ((limits : Bounds) → IsBoxOf limits old → IsExplained limits work old now) → AreBounds now
sizes_between work old now proper sizes inside explained =
    let box = box_of_itself old (proper_larger work old proper inside) in
    let mine = explained old box in
    AreBounds-inside old now sizes mine.within.inside mine.within.ordered

pub sizes_so_far : (work old now : Bounds) (own : Option Atom) (terms rest : List (ℤ × Var)) (slack left : ℕ) → AreProperBounds work → AreBounds old → IsSmaller work old → IsRowSoFar work old now own terms rest slack left → AreBounds now
sizes_so_far work old now own terms rest slack left proper sizes inside far = sizes_between work old now proper sizes inside far.explained

-- what was added lies between
pub record IsBetween (work old new : Bounds) : Type 0 where
  pub inside : IsSmaller work new
  pub more : IsSmaller new old

pub between : (work old new : Bounds) → AreProperBounds work → IsSmaller work old → ((limits : Bounds) → IsBoxOf limits old → IsExplained limits work old new) → IsBetween work old new
between work old new proper inside explained =
    let mine = explained old (box_of_itself old (proper_larger work old proper inside)) in
    record { inside = mine.inside; more = mine.more }

-- what was added is needed of the box
pub need_between : (work old new : Bounds) → IsNeedOf work old → IsExplainedIn work old new → IsNeedOf work new
need_between work old new needed explained = record {
  proper = needed.proper;
  inside = (between work old new needed.proper needed.inside explained).inside;
  work_sizes = needed.work_sizes;
  need_sizes = sizes_between work old new needed.proper needed.need_sizes needed.inside explained;
}

-- what is left of a slack
pub spend : (by size amount slack : ℕ) → size ≡ amount → by * size ≤ slack → by * amount + (slack - by * size) ≡ slack
spend by size amount slack e h = rw (sym e) (omega (arith, h))

-- the terms of a row, one after another
pub term_at : (count : ℕ) (terms : List (ℤ × Var)) (i : ℕ) (d : ℤ × Var) → i < length terms → AreTermsOf count terms → ((get_or terms i d).1.0 < count) × ((get_or terms i d).0 ≢ pos 0)
term_at count [] i d h known = absurd (omega arith)
term_at count (t ∷ terms) zero d h known = (known.0, known.1)
term_at count (t ∷ terms) (suc i) d h known = term_at count terms i d (omega arith) known.3

all_sum : (a w : ℤ) (left slack : ℕ) → ((a +ℤ pos 0) +ℤ pos left) ≤ℤ ((pos 0 +ℤ w) +ℤ pos slack) → a ≤ℤ (w +ℤ pos slack)
all_sum a w left slack h = omega (arith, ints)

pub row_ends : (work old now : Bounds) (own : Option Atom) (terms : List (ℤ × Var)) (slack left i : ℕ) → length terms ≤ i → IsRowSoFar work old now own terms (drop i terms) slack left → (b : Bounds) → IsSmaller b now → HoldsIn own b → greatest_activity b terms ≤ℤ (greatest_activity (box_with work own) terms +ℤ pos slack)
row_ends work old now own terms slack left i past far b smaller met =
    let end : IsRowSoFar work old now own terms [] slack left = subst (λ rest. IsRowSoFar work old now own terms rest slack left) (drop_all i terms past) far in
    all_sum (greatest_activity b terms) (greatest_activity (box_with work own) terms) left slack (end.sum b smaller met)
