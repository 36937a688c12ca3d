-- An order of decisions: the objectives, then the variables, each time the first that isn't fixed.
use Rattle.std.specs.Prelude.{◌≡◌, ◌<◌, ◌++◌, List, length, find, Option}
use Rattle.std.specs.List.{All}
use Rattle.cgm_atom.specs.declared.constraints.Var.{Var}
use Rattle.cgm_atom.specs.Bounds.{Bounds}
use Rattle.cgm_split.specs.Drawing.{IsEachOnce, by_number}
use Rattle.cgm_split.specs.Halving.{is_unfixed}

pub record Preference : Type 0 where
  -- the problem's objectives
  pub objectives : List Var
  -- the problem's variables, each once
  pub variables : List Var

pub record IsPreference (o : Preference) : Type 0 where
  pub known : All (λ v. v.0 < length o.variables) o.objectives
  pub each_once : IsEachOnce (length o.variables) o.variables

-- the first that isn't fixed, of the objectives and then of the variables
abbrev pub preferred : Bounds → Preference → Option Var
preferred b o = find (is_unfixed b) (o.objectives ++ o.variables)

-- the variables are in the order of their numbers
abbrev pub IsByNumber : Preference → Type 0
IsByNumber o = o.variables ≡ by_number (length o.variables)
