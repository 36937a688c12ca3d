-- The cut of a best: clauses, its parts by number from 0, that together hold exactly where a vector is less than that of the best.
use Rattle.std.specs.Prelude.{false, ℤ, pos, ◌-ℤ◌, List, [], ◌∷◌, map}
use Rattle.cgm_atom.specs.declared.constraints.Atom.{Atom}
use Rattle.cgm_atom.specs.declared.constraints.Clause.{Clause}
use Rattle.cgm_atom.specs.declared.constraints.Var.{Var}

-- `x <= k`
abbrev pub at_most_atom : Var → ℤ → Atom
at_most_atom x k = record { var = x; at_least = false; k = k }

-- `x <= v - 1`, and the atoms of the clause
abbrev pub with_lesser : Var → ℤ → Clause → Clause
with_lesser x v c = record { atoms = at_most_atom x (v -ℤ pos 1) ∷ c.atoms }

-- of the objectives and the best's values of them: for each but the last, that it is at most its value or one before it
-- is lesser; for the last, that one of all is lesser; without objectives the empty clause
unfoldable pub cut : List Var → List ℤ → List Clause
cut [] values = record { atoms = [] } ∷ []
cut (x ∷ objectives) [] = record { atoms = [] } ∷ []
cut (x ∷ []) (v ∷ values) = with_lesser x v (record { atoms = [] }) ∷ []
cut (x ∷ y ∷ objectives) (v ∷ values) =
    record { atoms = at_most_atom x v ∷ [] } ∷ map (with_lesser x v) (cut (y ∷ objectives) values)
