-- How a clause stands in a box: false, unit, or neither, and then it leaves the box as it is.
use Rattle.std.specs.Prelude.{◌≡◌, [], ◌∷◌, Some, None}
use Rattle.cgm_atom.specs.declared.constraints.Atom.{Atom}
use Rattle.cgm_atom.specs.declared.constraints.Clause.{Clause}
use Rattle.cgm_atom.specs.Bounds.{Bounds}
use Rattle.cgm_atom.specs.ClauseAtoms.{left_in}
use Rattle.cgm_atom.specs.Narrowing.{left_by_clause}
use Rattle.cgm_trail.specs.TrailState.{IsOpenIn}
use Rattle.cgm_clauses.specs.declared.standing.Standing.{Standing}
use Rattle.cgm_clauses.specs.declared.standing.Standing.TheVariants as standing

-- no atom of it can be true
abbrev pub IsFalseIn : Bounds → Clause → Type 0
IsFalseIn b c = left_by_clause b c ≡ None

-- all its atoms but this one are false, and this one is open
pub record IsUnitBy (b : Bounds) (c : Clause) (a : Atom) : Type 0 where
  pub only : left_in b c.atoms ≡ a ∷ []
  pub undecided : IsOpenIn b a

abbrev pub IsUnitIn : Bounds → Clause → Type 0
IsUnitIn b c = (a : Atom) × IsUnitBy b c a

-- narrowing by it changes nothing
abbrev pub IsQuietIn : Bounds → Clause → Type 0
IsQuietIn b c = left_by_clause b c ≡ Some b

abbrev pub IsStanding : Bounds → Clause → Standing → Type 0
IsStanding b c standing.Quiet = IsQuietIn b c
IsStanding b c standing.False = IsFalseIn b c
IsStanding b c (standing.Unit a) = IsUnitBy b c a
