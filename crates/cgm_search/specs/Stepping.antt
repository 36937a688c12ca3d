-- The parts of a unit: a decision, a look at the log, and a solution that is handed on.
use Rattle.std.specs.Prelude.{◌≡◌, ◌⊎◌, ◌<◌, ◌≤◌, Option, Some, None}
use Rattle.std.specs.List.{Contains}
use Rattle.cgm_atom.specs.Acceptance.{IsClosed}
use Rattle.cgm_clauses.specs.declared.named.Named.{Named}
use Rattle.cgm_clauses.specs.Standing.{IsFalseIn}
use Rattle.cgm_clauses.specs.StoreState.{all_clauses}
use Rattle.cgm_log.specs.Seats.{Seat}
use Rattle.cgm_search.specs.declared.plans.Stopped.{Stopped}
use Rattle.cgm_search.specs.declared.plans.Stopped.TheVariants as stopped
use Rattle.cgm_search.specs.declared.searches.Search.{Search}
use Rattle.cgm_search.specs.Knowing.{seen}
use Rattle.cgm_search.specs.Searching.{IsConflictOf, IsReady, Sits, need}
use Rattle.cgm_trail.specs.declared.changes.Swept.{Swept}
use Rattle.cgm_trail.specs.declared.changes.Swept.TheVariants as swept
use Rattle.cgm_trail.specs.TrailState.{box_of}

-- one move more, or none is left
abbrev pub IsOneMoveMore : Search → Search → Option Stopped → Type 0
IsOneMoveMore old new None = (old.trail.moves < new.trail.moves) × (need new ≤ need old)
IsOneMoveMore old new (Some stopped.Final) = ⊥
IsOneMoveMore old new (Some stopped.Spent) = new.trail.moves ≡ new.plan.budget
IsOneMoveMore old new (Some stopped.Memory) = ⊥

-- the log is closed, or the search is ready
abbrev pub IsLooked : Search → Seat → Option Stopped → Type 0
IsLooked s seat None = IsReady s × Sits s seat
IsLooked s seat (Some stopped.Final) = IsClosed seat.told
IsLooked s seat (Some stopped.Spent) = ⊥
IsLooked s seat (Some stopped.Memory) = ⊥

-- some clause of the store is false in the trail's box
abbrev pub HasFalseClause : Search → Type 0
HasFalseClause s =
    (n : Named) × Contains (all_clauses s.known.store) n × IsFalseIn (box_of s.trail) n.clause

-- the log is closed, or the search is ready and what was handed on isn't less than the last best
abbrev pub IsOffered : Search → Search → Type 0
IsOffered old new = IsClosed (seen new.known) ⊎ (IsReady new × HasFalseClause new)

-- some clause was false before, so it ends with a conflict or with the budget
abbrev pub IsCutOutcome : Search → Swept → Type 0
IsCutOutcome s swept.Quiet = ⊥
IsCutOutcome s (swept.Conflict h) = IsConflictOf s h
IsCutOutcome s swept.Spent = s.trail.moves ≡ s.plan.budget
