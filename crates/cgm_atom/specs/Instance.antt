-- A problem as contracts see it, its solutions, and the first thing that keeps values from being one.
use Rattle.std.specs.Prelude.{◌≡◌, Bool, true, false, not, ◌&&◌, ℕ, ◌+◌, ◌==◌, ℤ, List, [], ◌∷◌, map, length, if◌then◌else◌, int_le, IsTrue, Option, Some, None}
use Rattle.std.specs.List.{All, position_from}
use Rattle.std.specs.Option.{option_map}
use Rattle.cgm_atom.specs.declared.constraints.Clause.{Clause}
use Rattle.cgm_atom.specs.declared.constraints.Row.{Row}
use Rattle.cgm_atom.specs.declared.constraints.Var.{Var}
use Rattle.cgm_atom.specs.declared.checks.Violated.{Violated}
use Rattle.cgm_atom.specs.declared.checks.Violated.TheVariants as violated
use Rattle.cgm_atom.specs.Atoms.{clause_true, row_true}
use Rattle.cgm_atom.specs.Bounds.{Bounds, IsWithin, lower_of, upper_of, value_of}
use Rattle.cgm_base.specs.Order.{IsLess}

pub record Instance : Type 0 where
  pub bounds : Bounds
  pub clauses : List Clause
  pub rows : List Row
  pub objectives : List Var

-- how many variables there are
abbrev pub var_count : Instance → ℕ
var_count p = length p.bounds.lower

-- the values of the objectives, in their order
abbrev pub values_at : List ℤ → List Var → List ℤ
values_at values objectives = map (λ (v : Var). value_of values v.0) objectives

abbrev pub vector : Instance → List ℤ → List ℤ
vector p values = values_at values p.objectives

pub record IsSolution (p : Instance) (values : List ℤ) : Type 0 where
  pub count : length values ≡ var_count p
  pub within : IsWithin p.bounds values
  pub clauses : All (λ c. IsTrue (clause_true values c)) p.clauses
  pub rows : All (λ r. IsTrue (row_true values r)) p.rows

-- no solution has a lesser vector
abbrev pub IsLeast : Instance → List ℤ → Type 0
IsLeast p values = (others : List ℤ) → IsSolution p others → ¬ IsLess (vector p others) (vector p values)

abbrev pub HasNoSolution : Instance → Type 0
HasNoSolution p = (values : List ℤ) → ¬ IsSolution p values

-- ---- the first test that fails

-- the first of the faults that is there
abbrev pub first_some : {X : Type 0} → List (Option X) → Option X
first_some [] = None
first_some (None ∷ others) = first_some others
first_some (Some fault ∷ others) = Some fault

-- the fault, where the test fails
abbrev pub fault_unless : {X : Type 0} → Bool → X → Option X
fault_unless true fault = None
fault_unless false fault = Some fault

-- the first variable, from x on, whose value is outside its bounds
abbrev pub outside_from : Bounds → ℕ → List ℤ → Option ℕ
outside_from b x [] = None
outside_from b x (v ∷ values) =
    if int_le (lower_of b x) v && int_le v (upper_of b x) then outside_from b (x + 1) values else Some x

-- counts, bounds, clauses and rows, by number
abbrev pub violations : Instance → List ℤ → List (Option Violated)
violations p values =
    fault_unless (length values == var_count p) violated.Count
    ∷ option_map violated.Bound (outside_from p.bounds 0 values)
    ∷ option_map violated.Clause (position_from (λ c. not (clause_true values c)) 0 p.clauses)
    ∷ option_map violated.Row (position_from (λ r. not (row_true values r)) 0 p.rows)
    ∷ []

abbrev pub first_violation : Instance → List ℤ → Option Violated
first_violation p values = first_some (violations p values)
