-- The problem and the changes that the fields of a `Path` keep, and what ties its other fields to these.
use Rattle.std.specs.Prelude.{◌≡◌, ℕ, List}
use Rattle.cgm_atom.specs.Bounds.{Bounds}
use Rattle.cgm_atom.specs.Limits.{IsWellFormedProblem}
use Rattle.cgm_trail.specs.declared.changes.Change.{Change}
use Rattle.cgm_trail.specs.declared.paths.Path.TheInside.{Inside}
use Rattle.cgm_trail.specs.TrailState.{AreChanges, PathState, box_after, decision_places}

abbrev pub path_state : Inside → PathState
path_state p = record { problem = p.problem; changes = p.changes.items }

-- the changes lead from these bounds to the box, and the decisions stand at these places
pub record IsLed (limits state : Bounds) (changes : List Change) (starts : List ℕ) : Type 0 where
  pub made : AreChanges limits changes
  pub leads : state ≡ box_after limits changes
  pub opened : starts ≡ decision_places 0 changes

pub record IsPath (p : Inside) : Type 0 where
  pub problem : IsWellFormedProblem p.problem
  pub led : IsLed p.problem.bounds p.state p.changes.items p.starts.items
