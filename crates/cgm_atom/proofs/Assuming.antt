-- Making an atom true that isn't false keeps a box in order and within its limits.
use Rattle.std.proofs.Common.{◌≡◌, ℕ, zero, suc, Bool, true, false, cond, List, [], ◌∷◌, refl, ap, subst, sym, arith, rules, length-set, w64, to_z, of_z}
use Rattle.std.specs.Prelude.{ℤ, ◌≤ℤ◌, FitsSigned, int_lt, slice_set}
use Rattle.std.specs.Int.{int_max, int_min}
use Rattle.std.proofs.lemmas.Int.{ints, clamps, to_z-of_z}
use Rattle.cgm_atom.specs.Bounds.{Bounds, IsBoxOf, AreProperBounds, value_of, lower_of, upper_of}
use Rattle.cgm_atom.specs.Narrowing.{raised, reduced}
use Rattle.cgm_atom.proofs.SignedSteps.{≤ℤ_trans}

-- a value after a write is the old one, or the written one at its place
pub value_of-set : (P : ℤ → Type 0) (xs : List ℤ) (i x : ℕ) (v : ℤ) → P (value_of xs x) → (x ≡ i → P v) → P (value_of (slice_set xs i v) x)
value_of-set P [] i x v h k = h
value_of-set P (a ∷ xs) zero zero v h k = k refl
value_of-set P (a ∷ xs) zero (suc x) v h k = h
value_of-set P (a ∷ xs) (suc i) zero v h k = h
value_of-set P (a ∷ xs) (suc i) (suc x) v h k = value_of-set P xs i x v h (λ e. k (ap suc e))

not_less : (a b : ℤ) → int_lt a b ≡ false → b ≤ℤ a
not_less a b h = grind (arith, ints)

int_max-le : (a b c : ℤ) → a ≤ℤ c → b ≤ℤ c → int_max a b ≤ℤ c
int_max-le a b c h k = omega (arith, ints, clamps)

le-int_max : (a b c : ℤ) → c ≤ℤ a → c ≤ℤ int_max a b
le-int_max a b c h = omega (arith, ints, clamps)

le-int_min : (a b c : ℤ) → c ≤ℤ a → c ≤ℤ b → c ≤ℤ int_min a b
le-int_min a b c h k = omega (arith, ints, clamps)

int_min-le : (a b c : ℤ) → a ≤ℤ c → int_min a b ≤ℤ c
int_min-le a b c h = omega (arith, ints, clamps)

-- what the code's `x.max(y)`, `x.min(y)` and `x < y` give, of values that fit
pub read_max : (r x y z : ℤ) → FitsSigned w64 r → FitsSigned w64 x → FitsSigned w64 y → r ≡ int_max (to_z w64 (of_z w64 x)) (to_z w64 (of_z w64 y)) → x ≡ z → to_z w64 (of_z w64 r) ≡ int_max z y
read_max r x y z fr fx fy h e = rw (to_z-of_z w64 r fr, h, to_z-of_z w64 x fx, to_z-of_z w64 y fy, e) refl

pub read_min : (r x y z : ℤ) → FitsSigned w64 r → FitsSigned w64 x → FitsSigned w64 y → r ≡ int_min (to_z w64 (of_z w64 x)) (to_z w64 (of_z w64 y)) → x ≡ z → to_z w64 (of_z w64 r) ≡ int_min z y
read_min r x y z fr fx fy h e = rw (to_z-of_z w64 r fr, h, to_z-of_z w64 x fx, to_z-of_z w64 y fy, e) refl

-- what a test of the code says that found an atom not false
pub read_not_above : (up : Bool) (k hi z : ℤ) (other : Bool) → FitsSigned w64 hi → hi ≡ z → up ≡ true → false ≡ cond up (int_lt (to_z w64 (of_z w64 hi)) k) other → k ≤ℤ z
read_not_above true k hi z other fits e up h =
    subst (λ (u : ℤ). k ≤ℤ u) e (not_less hi k (rw (to_z-of_z w64 hi fits) at (sym h)))
read_not_above false k hi z other fits e up h = absurd (cc)

pub read_not_below : (up : Bool) (k lo z : ℤ) (other : Bool) → FitsSigned w64 lo → lo ≡ z → up ≡ false → false ≡ cond up other (int_lt k (to_z w64 (of_z w64 lo))) → z ≤ℤ k
read_not_below true k lo z other fits e up h = absurd (cc)
read_not_below false k lo z other fits e up h =
    subst (λ (l : ℤ). l ≤ℤ k) e (not_less k lo (rw (to_z-of_z w64 lo fits) at (sym h)))

pub raised_ordered : (b : Bounds) (i : ℕ) (k : ℤ) → ((x : ℕ) → lower_of b x ≤ℤ upper_of b x) → k ≤ℤ upper_of b i → (x : ℕ) → lower_of (raised b i k) x ≤ℤ upper_of b x
raised_ordered b i k ordered h x =
    value_of-set (λ l. l ≤ℤ upper_of b x) b.lower i x (int_max (lower_of b i) k) (ordered x)
    (λ e. subst (λ y. int_max (lower_of b i) k ≤ℤ upper_of b y) (sym e) (int_max-le (lower_of b i) k (upper_of b i) (ordered i) h))

reduced_ordered : (b : Bounds) (i : ℕ) (k : ℤ) → ((x : ℕ) → lower_of b x ≤ℤ upper_of b x) → lower_of b i ≤ℤ k → (x : ℕ) → lower_of b x ≤ℤ upper_of (reduced b i k) x
reduced_ordered b i k ordered h x =
    value_of-set (λ u. lower_of b x ≤ℤ u) b.upper i x (int_min (upper_of b i) k) (ordered x)
    (λ e. subst (λ y. lower_of b y ≤ℤ int_min (upper_of b i) k) (sym e) (le-int_min (upper_of b i) k (lower_of b i) (ordered i) h))

raised_above : (b : Bounds) (i : ℕ) (k : ℤ) (x : ℕ) → lower_of b x ≤ℤ lower_of (raised b i k) x
raised_above b i k x =
    value_of-set (λ l. lower_of b x ≤ℤ l) b.lower i x (int_max (lower_of b i) k) (search (rules, ints))
    (λ e. subst (λ y. lower_of b y ≤ℤ int_max (lower_of b i) k) (sym e) (le-int_max (lower_of b i) k (lower_of b i) (search (rules, ints))))

reduced_below : (b : Bounds) (i : ℕ) (k : ℤ) (x : ℕ) → upper_of (reduced b i k) x ≤ℤ upper_of b x
reduced_below b i k x =
    value_of-set (λ u. u ≤ℤ upper_of b x) b.upper i x (int_min (upper_of b i) k) (search (rules, ints))
    (λ e. subst (λ y. int_min (upper_of b i) k ≤ℤ upper_of b y) (sym e) (int_min-le (upper_of b i) k (upper_of b i) (search (rules, ints))))

pub box_raised : (limits b : Bounds) (i : ℕ) (k : ℤ) → k ≤ℤ upper_of b i → IsBoxOf limits b → IsBoxOf limits (raised b i k)
box_raised limits b i k h box = record {
  lower_count = rw length-set box.lower_count;
  upper_count = box.upper_count;
  inside = λ x. (≤ℤ_trans (lower_of limits x) (lower_of b x) (lower_of (raised b i k) x) (box.inside x).0 (raised_above b i k x), (box.inside x).1);
  ordered = raised_ordered b i k box.ordered h;
}

pub box_reduced : (limits b : Bounds) (i : ℕ) (k : ℤ) → lower_of b i ≤ℤ k → IsBoxOf limits b → IsBoxOf limits (reduced b i k)
box_reduced limits b i k h box = record {
  lower_count = box.lower_count;
  upper_count = rw length-set box.upper_count;
  inside = λ x. ((box.inside x).0, ≤ℤ_trans (upper_of (reduced b i k) x) (upper_of b x) (upper_of limits x) (reduced_below b i k x) (box.inside x).1);
  ordered = reduced_ordered b i k box.ordered h;
}

pub IsProper-raised : (b : Bounds) (i : ℕ) (k : ℤ) → k ≤ℤ upper_of b i → AreProperBounds b → AreProperBounds (raised b i k)
IsProper-raised b i k h proper = record { same_count = rw length-set proper.same_count; ordered = raised_ordered b i k proper.ordered h }

pub IsProper-reduced : (b : Bounds) (i : ℕ) (k : ℤ) → lower_of b i ≤ℤ k → AreProperBounds b → AreProperBounds (reduced b i k)
IsProper-reduced b i k h proper = record { same_count = rw length-set proper.same_count; ordered = reduced_ordered b i k proper.ordered h }
