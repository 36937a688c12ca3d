-- The bound that the greatest value of a term reads, and the bound of a box that is left out of what a row needs.
use Rattle.std.specs.Prelude.{◌≡◌, Bool, true, false, not, cond, ◌==◌, ℕ, ℤ, pos, ◌+ℤ◌, ◌-ℤ◌, ◌≤ℤ◌, int_lt, IfSome, MatchOption, Option, Some, None}
use Rattle.cgm_atom.specs.declared.constraints.Atom.{Atom}
use Rattle.cgm_atom.specs.declared.constraints.Row.{Row}
use Rattle.cgm_atom.specs.declared.constraints.Var.{Var}
use Rattle.cgm_atom.specs.Bounds.{Bounds, lower_of, upper_of}
use Rattle.cgm_atom.specs.Narrowing.{greatest_activity, is_true_in, made_true}

-- the least value for a negative coefficient, else the greatest
abbrev pub far_bound : Bounds → ℤ × Var → ℤ
far_bound b t = cond (int_lt t.0 (pos 0)) (lower_of b t.1.0) (upper_of b t.1.0)

-- that this bound is at most so much further out than a number
abbrev pub far_atom : ℤ × Var → ℤ → ℕ → Atom
far_atom t k by =
    record { var = t.1; at_least = int_lt t.0 (pos 0); k = cond (int_lt t.0 (pos 0)) (k -ℤ pos by) (k +ℤ pos by) }

-- the atom speaks of the bound that the term's greatest value reads
abbrev pub is_far_of : ℤ × Var → Atom → Bool
is_far_of t a = cond (cond (int_lt t.0 (pos 0)) a.at_least (not a.at_least)) (a.var.0 == t.1.0) false

-- the same of the bound that is left out, if one is
abbrev pub is_left_out : Option Atom → ℤ × Var → Bool
is_left_out None t = false
is_left_out (Some a) t = is_far_of t a

-- the box with that bound
abbrev pub box_with : Bounds → Option Atom → Bounds
box_with b None = b
box_with b (Some a) = made_true b a

abbrev pub HoldsIn : Option Atom → Bounds → Type 0
HoldsIn own b = IfSome own (λ a. is_true_in b a ≡ true)

-- the row's greatest sum in the box reaches its least value, or misses it by this slack and one
abbrev pub HasSlack : Row → Bounds → Option ℕ → Type 0
HasSlack r b found =
    MatchOption found (r.least ≤ℤ greatest_activity b r.terms)
    (λ slack. ((pos slack +ℤ greatest_activity b r.terms) +ℤ pos 1) ≡ r.least)
