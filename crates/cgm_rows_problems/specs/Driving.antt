-- Trails whose changes have reasons, over a log without pending lemmas.
use Rattle.std.specs.Prelude.{◌≡◌, ◌≢◌, List, [], length, Option, Some, None}
use Rattle.cgm_atom.specs.declared.constraints.Atom.{Atom}
use Rattle.cgm_atom.specs.declared.entries.Hint.{Hint}
use Rattle.cgm_atom.specs.declared.entries.Hint.TheVariants as hint
use Rattle.cgm_atom.specs.Bounds.{Bounds}
use Rattle.cgm_atom.specs.Constraints.{Constraint}
use Rattle.cgm_atom.specs.Instance.{Instance}
use Rattle.cgm_atom.specs.LogState.{LogState, named}
use Rattle.cgm_learn.specs.Learning.{IsNameAfter}
use Rattle.cgm_trail.specs.Steps.{AreReasoned, IsGiven}
use Rattle.cgm_trail.specs.TrailState.{TrailState}

-- the trail is one of the problem, and each change that isn't a decision has a reason
pub record IsDriven (p : Instance) (s : LogState) (t : TrailState) : Type 0 where
  pub problem : t.problem ≡ p
  pub reasons : AreReasoned (IsNameAfter p s []) p.bounds t.changes

-- the hint names a clause or a row of the problem
abbrev pub IsOfProblem : Hint → Type 0
IsOfProblem (hint.Clause n) = Unit {0}
IsOfProblem (hint.Row n) = Unit {0}
IsOfProblem (hint.Entry place) = ⊥
IsOfProblem (hint.Own i) = ⊥
IsOfProblem (hint.Cut ordinal part) = ⊥

-- what the hint names
abbrev pub HasName : Instance → LogState → Hint → Type 0
HasName p s h = (k : Constraint) × IsNameAfter p s [] h k × (named p s h ≡ Some k)

-- narrowing by what the hint names gives the atom
abbrev pub IsGivenBy : Instance → LogState → Bounds → Hint → Atom → Type 0
IsGivenBy p s b h a = (k : Constraint) × IsNameAfter p s [] h k × IsGiven b k a
