-- What an atom, a clause and a row say of values.
use Rattle.std.specs.Prelude.{Bool, true, cond, not, ◌||◌, ℤ, pos, ◌+ℤ◌, ◌-ℤ◌, ◌*ℤ◌, List, [], ◌∷◌, int_le, Option, Some, None}
use Rattle.std.specs.List.{list_any}
use Rattle.cgm_atom.specs.declared.constraints.Atom.{Atom}
use Rattle.cgm_atom.specs.declared.constraints.Clause.{Clause}
use Rattle.cgm_atom.specs.declared.constraints.Row.{Row}
use Rattle.cgm_atom.specs.declared.constraints.Var.{Var}
use Rattle.cgm_atom.specs.Bounds.{value_of}

-- `x >= k`, or `x <= k`
abbrev pub atom_true : List ℤ → Atom → Bool
atom_true values a = cond a.at_least (int_le a.k (value_of values a.var.0)) (int_le (value_of values a.var.0) a.k)

-- the atom that is true exactly where a is false
abbrev pub negation : Atom → Atom
negation a = record { var = a.var; at_least = not a.at_least; k = cond a.at_least (a.k -ℤ pos 1) (a.k +ℤ pos 1) }

abbrev pub clause_true : List ℤ → Clause → Bool
clause_true values c = list_any (atom_true values) c.atoms

-- the sum of coefficient times value
abbrev pub activity : List ℤ → List (ℤ × Var) → ℤ
activity values [] = pos 0
activity values (t ∷ terms) = (t.0 *ℤ value_of values t.1.0) +ℤ activity values terms

abbrev pub guard_true : List ℤ → Option Atom → Bool
guard_true values None = true
guard_true values (Some a) = atom_true values a

-- the guard is false, or the sum is at least the least value
abbrev pub row_true : List ℤ → Row → Bool
row_true values r = not (guard_true values r.guard) || int_le r.least (activity values r.terms)
