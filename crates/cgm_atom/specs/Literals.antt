-- The atoms that say that a variable of 0 or 1 is 1, or that it is 0, clauses of them, and the truths that values stand for.
use Rattle.std.specs.Prelude.{ℕ, Bool, true, false, cond, List, [], ◌∷◌, ℤ, pos, int_le}
use Rattle.cgm_atom.specs.declared.constraints.Atom.{Atom}
use Rattle.cgm_atom.specs.declared.constraints.Clause.{Clause}
use Rattle.cgm_atom.specs.Bounds.{value_of}

-- `x >= 1`
abbrev pub literal : ℕ → Atom
literal x = record { var = record { 0 = x }; at_least = true; k = pos 1 }

-- `x <= 0`
abbrev pub negated : ℕ → Atom
negated x = record { var = record { 0 = x }; at_least = false; k = pos 0 }

abbrev pub clause : List Atom → Clause
clause atoms = record { atoms = atoms }

-- `~A B`, where a name stands for its literal and `~` is negation
abbrev pub implication : ℕ → ℕ → Clause
implication a b = clause (negated a ∷ literal b ∷ [])

-- the truth that the value of a variable stands for: 1 or more is true, 0 or less is false
abbrev pub truth_at : List ℤ → ℕ → Bool
truth_at values x = int_le (pos 1) (value_of values x)

-- 1 for true, 0 for false
abbrev pub bit : Bool → ℤ
bit truth = cond truth (pos 1) (pos 0)
