-- Narrowing: the box that a clause or a row leaves of a box, or conflict (None).
use Rattle.std.specs.Prelude.{Bool, true, false, cond, not, ℕ, zero, suc, ◌/◌, ℤ, pos, negsuc, ◌+ℤ◌, ◌-ℤ◌, ◌*ℤ◌, unsigned_abs, List, [], ◌∷◌, slice_set, if◌then◌else◌, int_le, int_lt, Option, Some, None}
use Rattle.std.specs.Int.{int_max, int_min}
use Rattle.std.specs.List.{filter}
use Rattle.cgm_atom.specs.declared.constraints.Atom.{Atom}
use Rattle.cgm_atom.specs.declared.constraints.Clause.{Clause}
use Rattle.cgm_atom.specs.declared.constraints.Row.{Row}
use Rattle.cgm_atom.specs.declared.constraints.Var.{Var}
use Rattle.cgm_atom.specs.Atoms.{negation}
use Rattle.cgm_atom.specs.Bounds.{Bounds, lower_of, upper_of}

-- all values of the box make the atom true
abbrev pub is_true_in : Bounds → Atom → Bool
is_true_in b a = cond a.at_least (int_le a.k (lower_of b a.var.0)) (int_le (upper_of b a.var.0) a.k)

-- no value of the box does; an atom that is neither is open
abbrev pub is_false_in : Bounds → Atom → Bool
is_false_in b a = cond a.at_least (int_lt (upper_of b a.var.0) a.k) (int_lt a.k (lower_of b a.var.0))

-- the least value of variable x is at least k
abbrev pub raised : Bounds → ℕ → ℤ → Bounds
raised b x k = record b { lower = slice_set b.lower x (int_max (lower_of b x) k) }

-- the greatest value of variable x is at most k
abbrev pub reduced : Bounds → ℕ → ℤ → Bounds
reduced b x k = record b { upper = slice_set b.upper x (int_min (upper_of b x) k) }

-- the values of the box that make the atom true
abbrev pub made_true : Bounds → Atom → Bounds
made_true b a = cond a.at_least (raised b a.var.0 a.k) (reduced b a.var.0 a.k)

-- the atom is made true, unless it is false
abbrev pub assumed : Bounds → Atom → Option Bounds
assumed b a = if is_false_in b a then None else Some (made_true b a)

-- the atoms in their order
abbrev pub all_assumed : Bounds → List Atom → Option Bounds
all_assumed b [] = Some b
all_assumed b (a ∷ atoms) = if is_false_in b a then None else all_assumed (made_true b a) atoms

-- ---- by a clause

-- none left is conflict, and one is made true (which changes nothing where it is true already)
abbrev pub left_by_atoms : Bounds → List Atom → Option Bounds
left_by_atoms b [] = None
left_by_atoms b (a ∷ []) = Some (made_true b a)
left_by_atoms b (a ∷ a' ∷ atoms) = Some b

unfoldable pub left_by_clause : Bounds → Clause → Option Bounds
left_by_clause b c = left_by_atoms b (filter (λ a. not (is_false_in b a)) c.atoms)

-- ---- by a row

-- the greatest value of a coefficient times a variable
abbrev pub greatest_term : Bounds → ℤ → ℕ → ℤ
greatest_term b c x = cond (int_lt c (pos 0)) (c *ℤ lower_of b x) (c *ℤ upper_of b x)

abbrev pub greatest_activity : Bounds → List (ℤ × Var) → ℤ
greatest_activity b [] = pos 0
greatest_activity b (t ∷ terms) = greatest_term b t.0 t.1.0 +ℤ greatest_activity b terms

-- what variable x keeps, where its term is at most `room` below its greatest value in the old box:
-- for a positive c it is at least `upper - floor (room / c)`, for a negative c at most `lower + floor (room / -c)`
abbrev pub kept_atom : Bounds → ℕ → ℤ → Var → Atom
kept_atom old room (pos n) x = record { var = x; at_least = true; k = upper_of old x.0 -ℤ pos (room / n) }
kept_atom old room (negsuc n) x = record { var = x; at_least = false; k = lower_of old x.0 +ℤ pos (room / suc n) }

-- a term without a coefficient leaves the box
abbrev pub tightened_by_term : Bounds → ℕ → ℤ → Var → Bounds → Bounds
tightened_by_term old room (pos zero) x b = b
tightened_by_term old room (pos (suc n)) x b = made_true b (kept_atom old room (pos (suc n)) x)
tightened_by_term old room (negsuc n) x b = made_true b (kept_atom old room (negsuc n) x)

abbrev pub tightened_by_terms : Bounds → ℕ → List (ℤ × Var) → Bounds → Bounds
tightened_by_terms old room [] b = b
tightened_by_terms old room (t ∷ terms) b =
    tightened_by_terms old room terms (tightened_by_term old room t.0 t.1 b)

-- the row is claimed in the whole box
abbrev pub is_claimed_in : Bounds → Option Atom → Bool
is_claimed_in b None = true
is_claimed_in b (Some g) = is_true_in b g

-- where no values of the box meet the row: conflict, or the guard is made false (which changes nothing where it is false)
abbrev pub left_by_unmet : Bounds → Option Atom → Option Bounds
left_by_unmet b None = None
left_by_unmet b (Some g) = if is_true_in b g then None else Some (made_true b (negation g))

-- where some do: each term keeps what the others leave it, all from the same box
abbrev pub left_by_met : Bounds → Row → Bounds
left_by_met b r =
    if is_claimed_in b r.guard then tightened_by_terms b (unsigned_abs (greatest_activity b r.terms -ℤ r.least)) r.terms b else b

unfoldable pub left_by_row : Bounds → Row → Option Bounds
left_by_row b r = if int_lt (greatest_activity b r.terms) r.least then left_by_unmet b r.guard else Some (left_by_met b r)
