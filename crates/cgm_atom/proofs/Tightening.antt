-- What making an atom true does to the bounds.
use Rattle.std.proofs.Common.{◌≡◌, ◌≢◌, ◌⊎◌, ℕ, ◌<◌, Bool, true, false, cond, length, refl, ap, subst, inl, inr, ◌∙◌, ◌≤◌, arith}
use Rattle.std.specs.Prelude.{ℤ, pos, ◌≤ℤ◌, ◌<ℤ◌, int_le, not, if◌then◌else◌, unsigned_abs}
use Rattle.std.specs.declared.option.Option.{Option}
use Rattle.std.specs.declared.option.Option.TheVariants.{Some}
use Rattle.std.specs.Int.{int_max, int_min}
use Rattle.std.proofs.lemmas.Int.{ints, clamps}
use Rattle.std.proofs.lemmas.List.{get_or-set_same}
use Rattle.cgm_atom.specs.declared.constraints.Atom.{Atom}
use Rattle.cgm_atom.specs.Bounds.{Bounds, IsBoxOf, IsInside, AreProperBounds, lower_of, upper_of}
use Rattle.cgm_atom.specs.Narrowing.{is_false_in, is_true_in, made_true, raised, reduced}
use Rattle.cgm_atom.specs.declared.outcome.Narrowed.{Narrowed}
use Rattle.cgm_atom.specs.declared.outcome.Narrowed.TheVariants.{Same, Tighter, Conflict}
use Rattle.cgm_atom.specs.Outcome.{IsNarrower, IsNarrowing, IsTightening, outcomes_joined}
use Rattle.cgm_atom.specs.Steps.{AreBounds}
use Rattle.cgm_atom.specs.Limits.{max_bound}
use Rattle.cgm_atom.proofs.SignedSteps.{≤ℤ_refl, ≤ℤ_trans}

lt-int_max : (a k : ℤ) → int_le k a ≡ false → a <ℤ int_max a k
lt-int_max a k h = let e : a <ℤ k = grind (arith, ints) in omega (arith, ints, clamps)

int_min-lt : (a k : ℤ) → int_le a k ≡ false → int_min a k <ℤ a
int_min-lt a k h = let e : k <ℤ a = grind (arith, ints) in omega (arith, ints, clamps)

written_narrower : (b : Bounds) (i : ℕ) (up : Bool) (k : ℤ) → i < length b.lower → length b.upper ≡ length b.lower → cond up (int_le k (lower_of b i)) (int_le (upper_of b i) k) ≡ false → IsNarrower (cond up (raised b i k) (reduced b i k)) b
written_narrower b i true k known same unmet =
    (i, inl (rw (get_or-set_same b.lower i (int_max (lower_of b i) k) (pos 0) known) (lt-int_max (lower_of b i) k unmet)))
written_narrower b i false k known same unmet =
    let known' : i < length b.upper = omega arith in
    (i, inr (rw (get_or-set_same b.upper i (int_min (upper_of b i) k) (pos 0) known') (int_min-lt (upper_of b i) k unmet)))

-- an atom that isn't true yet makes a bound tighter
pub made_true_narrower : (b : Bounds) (a : Atom) → a.var.0 < length b.lower → length b.upper ≡ length b.lower → is_true_in b a ≡ false → IsNarrower (made_true b a) b
made_true_narrower b a known same unmet = written_narrower b a.var.0 a.at_least a.k known same unmet

-- a bound that is tighter stays so
narrower_at : (x : ℕ) (old mid new : Bounds) → IsInside new mid → (lower_of old x <ℤ lower_of mid x) ⊎ (upper_of mid x <ℤ upper_of old x) → (lower_of old x <ℤ lower_of new x) ⊎ (upper_of new x <ℤ upper_of old x)
narrower_at x old mid new inside (inl h) = let k = (inside x).0 in inl (omega (arith, ints))
narrower_at x old mid new inside (inr h) = let k = (inside x).1 in inr (omega (arith, ints))

pub narrower_after : (old mid new : Bounds) → IsNarrower mid old → IsInside new mid → IsNarrower new old
narrower_after old mid new h inside = (h.0, narrower_at h.0 old mid new inside h.1)

irreflexive : (a : ℤ) → a <ℤ a → ⊥
irreflexive a h = absurd (omega (arith, ints))

narrower_at_same : (x : ℕ) (b : Bounds) → (lower_of b x <ℤ lower_of b x) ⊎ (upper_of b x <ℤ upper_of b x) → ⊥
narrower_at_same x b (inl h) = irreflexive (lower_of b x) h
narrower_at_same x b (inr h) = irreflexive (upper_of b x) h

-- a narrower box is another one
pub narrower_differs : (old new : Bounds) → IsNarrower new old → new ≢ old
narrower_differs old new h e = narrower_at_same h.0 old (subst (λ (b : Bounds). (lower_of old h.0 <ℤ lower_of b h.0) ⊎ (upper_of b h.0 <ℤ upper_of old h.0)) e h.1)

-- an atom that isn't false is made true
pub made_when_open : (old new : Bounds) (a : Atom) (answer : Bool) → is_false_in old a ≡ false → answer ≡ not (is_false_in old a) → new ≡ (if answer then made_true old a else old) → new ≡ made_true old a
made_when_open old new a true unmet e h = h
made_when_open old new a false unmet e h = absurd (cc)

-- a step that is no conflict, where the definition leaves its box
pub narrowing_from : (left : Option Bounds) (old new : Bounds) (answer : Narrowed) → left ≡ Some new → IsTightening old new answer → IsNarrowing left old new answer
narrowing_from left old new Same e h = (e ∙ ap Some h, h)
narrowing_from left old new Tighter e h = (e, narrower_differs old new h)
narrowing_from left old new Conflict e h = absurd h

-- a second step after a first
pub tightening_after : (old mid new : Bounds) (first second : Narrowed) → IsInside new mid → IsTightening old mid first → IsTightening mid new second → IsTightening old new (outcomes_joined first second)
tightening_after old mid new Same Same inside h k = k ∙ h
tightening_after old mid new Same Tighter inside h k = subst (λ (b : Bounds). IsNarrower new b) h k
tightening_after old mid new Same Conflict inside h k = k
tightening_after old mid new Tighter second inside h k = narrower_after old mid new h inside
tightening_after old mid new Conflict second inside h k = absurd h

-- ---- bounds within the limit

pub between : (l z u : ℤ) (n : ℕ) → l ≤ℤ z → z ≤ℤ u → unsigned_abs l ≤ n → unsigned_abs u ≤ n → unsigned_abs z ≤ n
between l z u n h k a b = omega (arith, ints)

pub AreBounds-inside : (outer inner : Bounds) → AreBounds outer → IsInside inner outer → ((x : ℕ) → lower_of inner x ≤ℤ upper_of inner x) → AreBounds inner
AreBounds-inside outer inner sizes inside ordered x = (
  between (lower_of outer x) (lower_of inner x) (upper_of outer x) max_bound (inside x).0 (≤ℤ_trans (lower_of inner x) (upper_of inner x) (upper_of outer x) (ordered x) (inside x).1) (sizes x).0 (sizes x).1,
  between (lower_of outer x) (upper_of inner x) (upper_of outer x) max_bound (≤ℤ_trans (lower_of outer x) (lower_of inner x) (upper_of inner x) (inside x).0 (ordered x)) (inside x).1 (sizes x).0 (sizes x).1,
)

-- a box is one within itself
pub IsBoxOf-itself : (b : Bounds) → AreProperBounds b → IsBoxOf b b
IsBoxOf-itself b proper = record {
  lower_count = refl;
  upper_count = proper.same_count;
  inside = λ x. (≤ℤ_refl (lower_of b x), ≤ℤ_refl (upper_of b x));
  ordered = proper.ordered;
}
