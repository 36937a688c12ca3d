-- Setting a bound back keeps a box in order and within its limits, and undoes the making true of an atom.
use Rattle.std.proofs.Common.{◌≡◌, ℕ, zero, suc, Bool, true, false, List, [], ◌∷◌, refl, ap, subst, sym, arith, length-set}
use Rattle.std.specs.Prelude.{ℤ, ◌≤ℤ◌, IsTrue, int_le, slice_set}
use Rattle.std.proofs.lemmas.Int.{ints}
use Rattle.cgm_atom.specs.declared.constraints.Atom.{Atom}
use Rattle.cgm_atom.specs.declared.constraints.Var.{Var}
use Rattle.cgm_atom.specs.Bounds.{Bounds, IsBoxOf, value_of, lower_of, upper_of}
use Rattle.cgm_atom.specs.Narrowing.{is_true_in, made_true}
use Rattle.cgm_atom.specs.Relaxing.{IsNumberWithin, at_bound_of, relaxed}
use Rattle.cgm_atom.proofs.Assuming.{value_of-set}
use Rattle.cgm_atom.proofs.SignedSteps.{≤ℤ_trans}

is_below : (a b : ℤ) → IsTrue (int_le a b) → a ≤ℤ b
is_below a b h = grind (arith, ints)

-- a list with one value written back
set_back : (xs : List ℤ) (i : ℕ) (v : ℤ) → slice_set (slice_set xs i v) i (value_of xs i) ≡ xs
set_back [] i v = refl
set_back (x ∷ xs) zero v = refl
set_back (x ∷ xs) (suc i) v = ap (λ ys. x ∷ ys) (set_back xs i v)

lower_relaxed_ordered : (b : Bounds) (i : ℕ) (k : ℤ) → ((x : ℕ) → lower_of b x ≤ℤ upper_of b x) → k ≤ℤ lower_of b i → (x : ℕ) → value_of (slice_set b.lower i k) x ≤ℤ upper_of b x
lower_relaxed_ordered b i k ordered h x =
    value_of-set (λ l. l ≤ℤ upper_of b x) b.lower i x k (ordered x)
    (λ e. subst (λ y. k ≤ℤ upper_of b y) (sym e) (≤ℤ_trans k (lower_of b i) (upper_of b i) h (ordered i)))

upper_relaxed_ordered : (b : Bounds) (i : ℕ) (k : ℤ) → ((x : ℕ) → lower_of b x ≤ℤ upper_of b x) → upper_of b i ≤ℤ k → (x : ℕ) → lower_of b x ≤ℤ value_of (slice_set b.upper i k) x
upper_relaxed_ordered b i k ordered h x =
    value_of-set (λ u. lower_of b x ≤ℤ u) b.upper i x k (ordered x)
    (λ e. subst (λ y. lower_of b y ≤ℤ k) (sym e) (≤ℤ_trans (lower_of b i) (upper_of b i) k (ordered i) h))

pub lower_relaxed : (limits b : Bounds) (i : ℕ) (k : ℤ) → k ≤ℤ lower_of b i → lower_of limits i ≤ℤ k → IsBoxOf limits b → IsBoxOf limits (record b { lower = slice_set b.lower i k })
lower_relaxed limits b i k below near place = record {
  lower_count = rw length-set place.lower_count;
  upper_count = place.upper_count;
  inside = λ y. (
    value_of-set (λ l. lower_of limits y ≤ℤ l) b.lower i y k (place.inside y).0
        (λ e. subst (λ z. lower_of limits z ≤ℤ k) (sym e) near),
    (place.inside y).1,
  );
  ordered = lower_relaxed_ordered b i k place.ordered below;
}

pub upper_relaxed : (limits b : Bounds) (i : ℕ) (k : ℤ) → upper_of b i ≤ℤ k → k ≤ℤ upper_of limits i → IsBoxOf limits b → IsBoxOf limits (record b { upper = slice_set b.upper i k })
upper_relaxed limits b i k above near place = record {
  lower_count = place.lower_count;
  upper_count = rw length-set place.upper_count;
  inside = λ y. (
    (place.inside y).0,
    value_of-set (λ u. u ≤ℤ upper_of limits y) b.upper i y k (place.inside y).1
        (λ e. subst (λ z. k ≤ℤ upper_of limits z) (sym e) near),
  );
  ordered = upper_relaxed_ordered b i k place.ordered above;
}

-- what a true atom and a number within the limits say, by direction
pub true_at_least : (b : Bounds) (a : Atom) → a.at_least ≡ true → IsTrue (is_true_in b a) → a.k ≤ℤ lower_of b a.var.0
true_at_least b a up h = is_below a.k (lower_of b a.var.0) (rw up at h)

pub true_at_most : (b : Bounds) (a : Atom) → a.at_least ≡ false → IsTrue (is_true_in b a) → upper_of b a.var.0 ≤ℤ a.k
true_at_most b a down h = is_below (upper_of b a.var.0) a.k (rw down at h)

pub within_lower : (limits : Bounds) (a : Atom) → a.at_least ≡ true → IsNumberWithin limits a → lower_of limits a.var.0 ≤ℤ a.k
within_lower limits a up h = is_below (lower_of limits a.var.0) a.k (rw up at h)

pub within_upper : (limits : Bounds) (a : Atom) → a.at_least ≡ false → IsNumberWithin limits a → a.k ≤ℤ upper_of limits a.var.0
within_upper limits a down h = is_below a.k (upper_of limits a.var.0) (rw down at h)

undone_by : (b : Bounds) (x : Var) (up : Bool) (k : ℤ) → relaxed (made_true b (record { var = x; at_least = up; k = k })) (at_bound_of b (record { var = x; at_least = up; k = k })) ≡ b
undone_by b x true k = ap (λ ls. record b { lower = ls }) (set_back b.lower x.0 _)
undone_by b x false k = ap (λ us. record b { upper = us }) (set_back b.upper x.0 _)

-- an atom that was made true is undone by the number that its bound had before
pub undone : (b : Bounds) (a : Atom) → relaxed (made_true b a) (at_bound_of b a) ≡ b
undone b a = undone_by b a.var a.at_least a.k
