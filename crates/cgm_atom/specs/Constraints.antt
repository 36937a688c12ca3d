-- Constraints, which are clauses and rows: when values meet one, and the box that one leaves.
use Rattle.std.specs.Prelude.{IsTrue, ℤ, List, Option, Some, None}
use Rattle.cgm_atom.specs.declared.constraints.Clause.{Clause}
use Rattle.cgm_atom.specs.declared.constraints.Row.{Row}
use Rattle.cgm_atom.specs.Atoms.{clause_true, row_true}
use Rattle.cgm_atom.specs.Bounds.{Bounds}
use Rattle.cgm_atom.specs.Narrowing.{left_by_clause, left_by_row}

pub data Constraint : Type 0 where
  of_clause : Clause → Constraint
  of_row : Row → Constraint

-- values make the clause true, or meet the row
abbrev pub IsMetBy : List ℤ → Constraint → Type 0
IsMetBy values (of_clause c) = IsTrue (clause_true values c)
IsMetBy values (of_row r) = IsTrue (row_true values r)

abbrev pub left_by : Bounds → Constraint → Option Bounds
left_by b (of_clause c) = left_by_clause b c
left_by b (of_row r) = left_by_row b r

-- what the named clause or row leaves; a hint that names nothing leaves the box
abbrev pub left_by_named : Bounds → Option Constraint → Option Bounds
left_by_named b None = Some b
left_by_named b (Some c) = left_by b c
