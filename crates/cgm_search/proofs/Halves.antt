-- The lower half of a variable that isn't fixed is open.
use Rattle.std.proofs.Common.{◌≡◌, ℕ, ◌<◌, Bool, true, false, length, refl, arith}
use Rattle.std.specs.Prelude.{ℤ, pos, int_le, int_lt, nat_lt, Option, Some, None, IfSome}
use Rattle.std.proofs.lemmas.Bool.{ltb-false, ltb-true}
use Rattle.std.proofs.lemmas.Int.{ints}
use Rattle.std.proofs.lemmas.List.{get_or_past}
use Rattle.cgm_atom.specs.declared.constraints.Atom.{Atom}
use Rattle.cgm_atom.specs.Bounds.{Bounds, IsBoxOf, lower_of, upper_of}
use Rattle.cgm_split.specs.Halving.{IsLowerHalf}
use Rattle.cgm_trail.specs.TrailState.{IsOpenIn}

neither : (k : ℤ) → int_le (pos 0) k ≡ false → int_lt k (pos 0) ≡ false → ⊥
neither k above below = grind (arith, ints)

-- past the end both bounds read as 0, and an atom is true or false there
known_by : (b : Bounds) (x : ℕ) (k : ℤ) (t : Bool) → nat_lt x (length b.lower) ≡ t → length b.upper ≡ length b.lower → int_le (upper_of b x) k ≡ false → int_lt k (lower_of b x) ≡ false → x < length b.lower
known_by b x k true e same above below = ltb-true x (length b.lower) e
known_by b x k false e same above below =
    let past = ltb-false x (length b.lower) e in
    absurd (neither k (rw (get_or_past b.upper x (pos 0) (rw same past)) at above) (rw (get_or_past b.lower x (pos 0) past) at below))

half_open : (b : Bounds) (a : Atom) → length b.upper ≡ length b.lower → IsLowerHalf b a.var a → IsOpenIn b a
half_open b a same half = record {
  known = known_by b a.var.0 a.k _ refl same (rw half.at_most at half.not_true) (rw half.at_most at half.not_false);
  not_true = half.not_true;
  not_false = half.not_false;
}

pub half_open_if_some : (limits b state : Bounds) (half : Option Atom) → IsBoxOf limits b → state ≡ b → IfSome half (λ a. IsLowerHalf state a.var a) → IfSome half (IsOpenIn b)
half_open_if_some limits b state None place e h = tt
half_open_if_some limits b state (Some a) place e h = half_open b a (rw place.lower_count place.upper_count) (rw e at h)
