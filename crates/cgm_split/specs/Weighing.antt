-- An order of decisions by conflicts: each raise adds to a variable's weight, and the heaviest variable that isn't fixed comes first.
use Rattle.std.specs.Prelude.{◌≡◌, Bool, ◌&&◌, Option, Some, None, ℕ, ◌+◌, ◌/◌, ◌^◌, ◌<◌, ◌≤◌, max, nat_lt, if◌then◌else◌, List, ◌∷◌, ◌++◌, map, length, slice_index, slice_set, replicate, IsTrue}
use Rattle.std.specs.List.{All}
use Rattle.cgm_atom.specs.declared.constraints.Var.{Var}
use Rattle.cgm_atom.specs.Bounds.{Bounds}
use Rattle.cgm_split.specs.Drawing.{IsEachOnce}
use Rattle.cgm_split.specs.Halving.{is_unfixed}

pub record Weighing : Type 0 where
  -- the problem's variables, each once
  pub variables : List Var
  -- the weight of each variable, by its number
  pub weights : List ℕ
  -- what the next raise adds
  pub increment : ℕ

abbrev pub weight_limit : ℕ
weight_limit = 2 ^ 62

pub record IsWeighing (w : Weighing) : Type 0 where
  pub each_once : IsEachOnce (length w.weights) w.variables
  pub light : All (λ weight. weight ≤ weight_limit) w.weights
  pub positive : 0 < w.increment
  pub small : w.increment ≤ weight_limit

-- the weight of variable x
abbrev pub weight_of : List ℕ → ℕ → ℕ
weight_of weights x = slice_index weights x

-- before the first raise
abbrev pub unweighed : List Var → Weighing
unweighed variables = record { variables = variables; weights = replicate (length variables) 0; increment = 2 ^ 16 }

-- an increment grows by a 256th
abbrev pub increment_grown : ℕ → ℕ
increment_grown increment = increment + increment / 256 + 1

-- the variable's weight grows by the increment, and the increment grows
abbrev pub lifted : Weighing → ℕ → Weighing
lifted w x =
    record { variables = w.variables; weights = slice_set w.weights x (weight_of w.weights x + w.increment); increment = increment_grown w.increment }

-- all are divided by 2^32
abbrev pub rescaled : Weighing → Weighing
rescaled w =
    record { variables = w.variables; weights = map (λ weight. weight / 2 ^ 32) w.weights; increment = w.increment / 2 ^ 32 + 1 }

-- a raise lifts the variable, and rescales where its weight or the increment then passes the limit
abbrev pub weight_raised : Weighing → ℕ → Weighing
weight_raised w x =
    if nat_lt weight_limit (max (weight_of w.weights x + w.increment) (increment_grown w.increment)) then rescaled (lifted w x) else lifted w x

-- v isn't fixed; of the variables before it in the list each is fixed or lighter, of those after it each is fixed or not heavier
pub record IsHeaviest (b : Bounds) (weights : List ℕ) (variables : List Var) (v : Var) : Type 0 where
  pub unfixed : IsTrue (is_unfixed b v)
  pub before : List Var
  pub after : List Var
  pub place : variables ≡ before ++ v ∷ after
  pub lighter : All (λ u. IsTrue (is_unfixed b u) → weight_of weights u.0 < weight_of weights v.0) before
  pub not_heavier : All (λ u. IsTrue (is_unfixed b u) → weight_of weights u.0 ≤ weight_of weights v.0) after

-- v isn't fixed and is heavier than the best so far
abbrev pub comes_before : Bounds → List ℕ → Var → Option Var → Bool
comes_before b weights v None = is_unfixed b v
comes_before b weights v (Some u) = is_unfixed b v && nat_lt (weight_of weights u.0) (weight_of weights v.0)
