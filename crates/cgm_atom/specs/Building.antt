-- What a builder's calls add to a problem, and when they refuse.
use Rattle.std.specs.Prelude.{◌≡◌, Bool, ◌&&◌, ◌||◌, ◌≤◌, ◌==◌, ℕ, ℤ, List, [], ◌∷◌, ◌++◌, length, unsigned_abs, if◌then◌else◌, Result, Ok, Err}
use Rattle.std.specs.declared.cmp.Ordering.{Ordering}
use Rattle.std.specs.Bool.{beq}
use Rattle.std.specs.BTreeSet.{BTreeSet, contains}
use Rattle.std.specs.List.{list_any}
use Rattle.std.specs.Ordering.{bool_cmp, int_cmp, int_eq, nat_cmp, ordering_then}
use Rattle.cgm_atom.specs.declared.builders.BuildStop.{BuildStop}
use Rattle.cgm_atom.specs.declared.builders.BuildStop.TheVariants as stop
use Rattle.cgm_atom.specs.declared.constraints.Atom.{Atom}
use Rattle.cgm_atom.specs.declared.constraints.Clause.{Clause}
use Rattle.cgm_atom.specs.declared.constraints.Row.{Row}
use Rattle.cgm_atom.specs.declared.constraints.Var.{Var}
use Rattle.cgm_atom.specs.Bounds.{Bounds}
use Rattle.cgm_atom.specs.Instance.{Instance, var_count}
use Rattle.cgm_atom.specs.Limits.{IsBound, max_least, max_measure, measure}

abbrev pub empty_instance : Instance
empty_instance = record { bounds = record { lower = []; upper = [] }; clauses = []; rows = []; objectives = [] }

abbrev pub with_var : Instance → ℤ → ℤ → Instance
with_var p lo hi =
    record p { bounds = record { lower = p.bounds.lower ++ lo ∷ []; upper = p.bounds.upper ++ hi ∷ [] } }

abbrev pub with_clause : Instance → Clause → Instance
with_clause p c = record p { clauses = p.clauses ++ c ∷ [] }

abbrev pub with_row : Instance → Row → Instance
with_row p r = record p { rows = p.rows ++ r ∷ [] }

abbrev pub with_objective : Instance → Var → Instance
with_objective p v = record p { objectives = p.objectives ++ v ∷ [] }

-- ---- a clause without repeated atoms

abbrev pub is_same_atom : Atom → Atom → Bool
is_same_atom a b = (a.var.0 == b.var.0) && (beq a.at_least b.at_least && int_eq a.k b.k)

-- of the atoms after those before, each that equals none before it
abbrev pub first_atoms : List Atom → List Atom → List Atom
first_atoms before [] = []
first_atoms before (a ∷ atoms) =
    if list_any (is_same_atom a) before then first_atoms (before ++ a ∷ []) atoms else a ∷ first_atoms (before ++ a ∷ []) atoms

-- each atom that equals none before it
abbrev pub without_repeats : Clause → Clause
without_repeats c = record { atoms = first_atoms [] c.atoms }

-- the order of atoms: by variable, at most before at least, and by number
abbrev pub atom_order : Atom → Atom → Ordering
atom_order a b = ordering_then (nat_cmp a.var.0 b.var.0) (ordering_then (bool_cmp a.at_least b.at_least) (int_cmp a.k b.k))

-- the set has this atom, and those that it had
abbrev pub HasOneMore : BTreeSet Atom → BTreeSet Atom → Atom → Type 0
HasOneMore old new a = (q : Atom) → contains atom_order new q ≡ (is_same_atom q a || contains atom_order old q)

-- ---- answers

-- the bounds are within the limit, and the next number is answered; or `Bound`, where one isn't
abbrev pub IsVarAnswer : Instance → Instance → ℤ → ℤ → Result Var BuildStop → Type 0
IsVarAnswer old new lo hi (Ok v) = (v.0 ≡ var_count old) × (new ≡ with_var old lo hi) × IsBound lo × IsBound hi
IsVarAnswer old new lo hi (Err stop.Bound) = (new ≡ old) × ¬ (IsBound lo × IsBound hi)
IsVarAnswer old new lo hi (Err stop.Row) = ⊥
IsVarAnswer old new lo hi (Err stop.Memory) = (new ≡ old) × IsBound lo × IsBound hi

-- the row's measure and its least value are within their limits
abbrev pub IsRowSize : Bounds → Row → Type 0
IsRowSize b r = (measure b r.terms ≤ max_measure) × (unsigned_abs r.least ≤ max_least)

abbrev pub IsRowAnswer : Instance → Instance → Row → Result ℕ BuildStop → Type 0
IsRowAnswer old new r (Ok n) = (n ≡ length old.rows) × (new ≡ with_row old r) × IsRowSize old.bounds r
IsRowAnswer old new r (Err stop.Bound) = ⊥
IsRowAnswer old new r (Err stop.Row) = (new ≡ old) × ¬ IsRowSize old.bounds r
IsRowAnswer old new r (Err stop.Memory) = (new ≡ old) × IsRowSize old.bounds r
