-- How far a problem is made.
use Rattle.std.specs.Prelude.{◌≡◌, ◌≤◌, ℕ, length}
use Rattle.cgm_atom.specs.Instance.{Instance, var_count}

-- it has so many variables, at most so many clauses and rows each, and so many objectives
pub record HasSizes (p : Instance) (variables most objectives : ℕ) : Type 0 where
  pub variables_met : var_count p ≡ variables
  pub clauses_met : length p.clauses ≤ most
  pub rows_met : length p.rows ≤ most
  pub objectives_met : length p.objectives ≡ objectives
