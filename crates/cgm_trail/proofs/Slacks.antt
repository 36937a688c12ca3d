-- The slack of a box: an open atom that is made true takes its units from it.
use Rattle.std.proofs.Common.{◌≡◌, ℕ, zero, suc, ◌+◌, ◌<◌, Bool, true, false, List, [], ◌∷◌, length, arith}
use Rattle.std.specs.Prelude.{ℤ, ◌-ℤ◌, ◌≤ℤ◌, ◌<ℤ◌, int_le, int_lt, slice_set, unsigned_abs}
use Rattle.std.specs.Int.{int_max, int_min}
use Rattle.std.proofs.lemmas.Int.{ints, clamps}
use Rattle.cgm_atom.specs.declared.constraints.Atom.{Atom}
use Rattle.cgm_atom.specs.declared.constraints.Var.{Var}
use Rattle.cgm_atom.specs.Bounds.{Bounds, lower_of, upper_of, value_of}
use Rattle.cgm_atom.specs.Narrowing.{made_true}
use Rattle.cgm_atom.specs.Relaxing.{bound_of}
use Rattle.cgm_trail.specs.Rank.{slack, slack_between}
use Rattle.cgm_trail.specs.TrailState.{IsOpenIn}

-- a number between two parts their distance
parted : (lo k hi : ℤ) → lo ≤ℤ k → k ≤ℤ hi → unsigned_abs (hi -ℤ k) + unsigned_abs (k -ℤ lo) ≡ unsigned_abs (hi -ℤ lo)
parted lo k hi h g = grind (arith, ints)

slack_raised : (lower upper : List ℤ) (x : ℕ) (k : ℤ) → x < length lower → x < length upper → value_of lower x ≤ℤ k → k ≤ℤ value_of upper x → slack_between (slice_set lower x k) upper + unsigned_abs (k -ℤ value_of lower x) ≡ slack_between lower upper
slack_raised [] upper x k h g below above = absurd (omega arith)
slack_raised (lo ∷ lower) [] x k h g below above = absurd (omega arith)
slack_raised (lo ∷ lower) (hi ∷ upper) zero k h g below above = omega (arith, parted lo k hi below above)
slack_raised (lo ∷ lower) (hi ∷ upper) (suc x) k h g below above =
    omega (arith, slack_raised lower upper x k (omega arith) (omega arith) below above)

-- the distance of two numbers is the same both ways
turned : (k hi : ℤ) → unsigned_abs (k -ℤ hi) ≡ unsigned_abs (hi -ℤ k)
turned k hi = grind (arith, ints)

slack_lowered : (lower upper : List ℤ) (x : ℕ) (k : ℤ) → x < length lower → x < length upper → value_of lower x ≤ℤ k → k ≤ℤ value_of upper x → slack_between lower (slice_set upper x k) + unsigned_abs (k -ℤ value_of upper x) ≡ slack_between lower upper
slack_lowered [] upper x k h g below above = absurd (omega arith)
slack_lowered (lo ∷ lower) [] x k h g below above = absurd (omega arith)
slack_lowered (lo ∷ lower) (hi ∷ upper) zero k h g below above =
    omega (arith, parted lo k hi below above, turned k hi)
slack_lowered (lo ∷ lower) (hi ∷ upper) (suc x) k h g below above =
    omega (arith, slack_lowered lower upper x k (omega arith) (omega arith) below above)

-- of an open atom: its number is past the bound that it speaks of, and not past the other
past_lower : (lo k : ℤ) → int_le k lo ≡ false → lo ≤ℤ k
past_lower lo k h = omega (arith, ints)

within_upper : (hi k : ℤ) → int_lt hi k ≡ false → k ≤ℤ hi
within_upper hi k h = omega (arith, ints)

greater : (lo k : ℤ) → lo ≤ℤ k → int_max lo k ≡ k
greater lo k h = omega (arith, ints, clamps)

lesser : (hi k : ℤ) → k ≤ℤ hi → int_min hi k ≡ k
lesser hi k h = omega (arith, ints, clamps)

differs : (k z : ℤ) → k <ℤ z → 0 < unsigned_abs (k -ℤ z)
differs k z h = grind (arith, ints)

differs_above : (k z : ℤ) → z <ℤ k → 0 < unsigned_abs (k -ℤ z)
differs_above k z h = grind (arith, ints)

slack_by : (b : Bounds) (x : Var) (up : Bool) (k : ℤ) → length b.upper ≡ length b.lower → IsOpenIn b (record { var = x; at_least = up; k = k }) → slack (made_true b (record { var = x; at_least = up; k = k })) + unsigned_abs (k -ℤ bound_of b (record { var = x; at_least = up; k = k })) ≡ slack b
unfolding slack
slack_by b x true k same h =
    let past : lower_of b x.0 ≤ℤ k = past_lower (lower_of b x.0) k h.not_true in
    let known : x.0 < length b.lower = h.known in
    rw (greater (lower_of b x.0) k past)
    (slack_raised b.lower b.upper x.0 k known (omega arith) past (within_upper (upper_of b x.0) k h.not_false))
slack_by b x false k same h =
    let past : k ≤ℤ upper_of b x.0 = past_lower k (upper_of b x.0) h.not_true in
    let known : x.0 < length b.lower = h.known in
    rw (lesser (upper_of b x.0) k past)
    (slack_lowered b.lower b.upper x.0 k known (omega arith) (within_upper k (lower_of b x.0) h.not_false) past)

pub slack_made_true : (b : Bounds) (a : Atom) → length b.upper ≡ length b.lower → IsOpenIn b a → slack (made_true b a) + unsigned_abs (a.k -ℤ bound_of b a) ≡ slack b
slack_made_true b a same h = slack_by b a.var a.at_least a.k same h

units_by : (b : Bounds) (x : Var) (up : Bool) (k : ℤ) → IsOpenIn b (record { var = x; at_least = up; k = k }) → 0 < unsigned_abs (k -ℤ bound_of b (record { var = x; at_least = up; k = k }))
units_by b x true k h = differs_above k (lower_of b x.0) (omega (arith, ints, h.not_true))
units_by b x false k h = differs k (upper_of b x.0) (omega (arith, ints, h.not_true))

-- an open atom shrinks the box by one unit at least
pub units_made_true : (b : Bounds) (a : Atom) → IsOpenIn b a → 0 < unsigned_abs (a.k -ℤ bound_of b a)
units_made_true b a h = units_by b a.var a.at_least a.k h
