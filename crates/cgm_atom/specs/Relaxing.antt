-- Taking a bound back: the box before an atom was made true, from the box after it.
use Rattle.std.specs.Prelude.{cond, ℤ, slice_set, int_le, IsTrue}
use Rattle.cgm_atom.specs.declared.constraints.Atom.{Atom}
use Rattle.cgm_atom.specs.Bounds.{Bounds, lower_of, upper_of}

-- the bound that the atom speaks of
abbrev pub bound_of : Bounds → Atom → ℤ
bound_of b a = cond a.at_least (lower_of b a.var.0) (upper_of b a.var.0)

-- the box with that bound set to the atom's number
abbrev pub relaxed : Bounds → Atom → Bounds
relaxed b a =
    cond a.at_least (record b { lower = slice_set b.lower a.var.0 a.k }) (record b { upper = slice_set b.upper a.var.0 a.k })

-- the number is no further out than that bound of the limits
abbrev pub IsNumberWithin : Bounds → Atom → Type 0
IsNumberWithin limits a =
    IsTrue (cond a.at_least (int_le (lower_of limits a.var.0) a.k) (int_le a.k (upper_of limits a.var.0)))

-- the atom about the same bound, at the number that the box has there
abbrev pub at_bound_of : Bounds → Atom → Atom
at_bound_of b a = record a { k = bound_of b a }
