-- What it is to add clauses to a problem, and when there is room for them.
use Rattle.std.specs.Prelude.{◌+◌, ◌-◌, ◌^◌, ◌≤◌, List, ◌++◌, map, length}
use Rattle.std.specs.List.{All}
use Rattle.cgm_atom.specs.declared.constraints.Clause.{Clause}
use Rattle.cgm_atom.specs.Building.{without_repeats}
use Rattle.cgm_atom.specs.Instance.{Instance, var_count}
use Rattle.cgm_atom.specs.Limits.{IsClauseOf}

-- the problem with these clauses more
abbrev pub with_clauses : Instance → List Clause → Instance
with_clauses p clauses = record p { clauses = p.clauses ++ clauses }

-- the problem with these clauses more, a later equal atom of each dropped
abbrev pub with_written : Instance → List Clause → Instance
with_written p clauses = with_clauses p (map without_repeats clauses)

-- the clauses have variables of the problem alone, and they don't become too many
pub record CanTake (p : Instance) (clauses : List Clause) : Type 0 where
  pub known : All (IsClauseOf (var_count p)) clauses
  pub room : length p.clauses + length clauses ≤ 2 ^ 32 - 1
