-- What propagation by one row does to a trail: just what narrowing by the row does to its box.
use Rattle.std.specs.Prelude.{◌≡◌, ℕ, ◌<◌, slice_get, Some, None, Result, Ok, Err}
use Rattle.cgm_atom.specs.declared.constraints.Atom.{Atom}
use Rattle.cgm_atom.specs.declared.constraints.Row.{Row}
use Rattle.cgm_atom.specs.declared.entries.Hint.{Hint}
use Rattle.cgm_atom.specs.declared.entries.Hint.TheVariants as hint
use Rattle.cgm_atom.specs.Bounds.{Bounds}
use Rattle.cgm_atom.specs.Constraints.{Constraint, of_row}
use Rattle.cgm_atom.specs.Instance.{Instance}
use Rattle.cgm_atom.specs.Narrowing.{left_by_row}
use Rattle.cgm_trail.specs.declared.changes.Swept.{Swept}
use Rattle.cgm_trail.specs.declared.changes.Swept.TheVariants as swept
use Rattle.cgm_trail.specs.Steps.{IsGiven, IsOnly}
use Rattle.cgm_trail.specs.TrailState.{IsOpenIn, TrailState, box_of}

-- the hint is to the row with this number, and the constraint is that row
abbrev pub IsRowNumbered : Instance → ℕ → Hint → Constraint → Type 0
IsRowNumbered p n h k = (r : Row) × (slice_get p.rows n ≡ Some r) × IsOnly (hint.Row n) (of_row r) h k

-- an atom is open that narrowing by the row makes true
pub record IsTighteningLeft (b : Bounds) (r : Row) : Type 0 where
  pub atom : Atom
  pub undecided : IsOpenIn b atom
  pub given : IsGiven b (of_row r) atom

-- after `Quiet` the box is what narrowing by the row leaves of the old one, and it leaves the new one as it is;
-- memory is wanted only for a tightening that is left to make
abbrev pub IsRowSwept : {E : Type 0} → Hint → Row → TrailState → TrailState → ℕ → Result Swept E → Type 0
IsRowSwept by r old new left (Ok swept.Quiet) =
    (left_by_row (box_of old) r ≡ Some (box_of new)) × (left_by_row (box_of new) r ≡ Some (box_of new))
IsRowSwept by r old new left (Ok (swept.Conflict h)) = (h ≡ by) × (left_by_row (box_of old) r ≡ None) × (new ≡ old)
IsRowSwept by r old new left (Ok swept.Spent) = (left ≡ 0) × IsTighteningLeft (box_of new) r
IsRowSwept by r old new left (Err e) = (0 < left) × IsTighteningLeft (box_of new) r
