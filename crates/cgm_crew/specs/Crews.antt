-- A crew, and how its search ends.
use Rattle.std.specs.Prelude.{◌≡◌, ℕ, ◌≤◌, List, [], ◌∷◌, vec_len}
use Rattle.cgm_atom.specs.Acceptance.{IsClosed}
use Rattle.cgm_atom.specs.declared.entries.Entry.{Entry}
use Rattle.cgm_atom.specs.Instance.{Instance}
use Rattle.cgm_atom.specs.Limits.{max_workers}
use Rattle.cgm_log.specs.LogBook.{IsLog}
use Rattle.cgm_search.specs.declared.plans.Plan.{Plan}
use Rattle.cgm_search.specs.declared.plans.Stopped.{Stopped}
use Rattle.cgm_search.specs.declared.plans.Stopped.TheVariants as stopped
use Rattle.cgm_search.specs.Searching.{IsPlan, IsTrailOf}
use Rattle.cgm_search.specs.Spending.{IsSpentTrail}
use Rattle.cgm_trail.specs.TrailState.{TrailState}
use Rattle.cgm_crew.specs.declared.crews.Crew.{Crew}
use Rattle.cgm_crew.specs.declared.crews.CrewEnd.{CrewEnd}
use Rattle.cgm_turn.specs.Entries.{made_by}

-- the plan of each worker
abbrev pub plan_of : Crew → Plan
plan_of crew = record { budget = crew.budget; restarts = crew.restarts; seed = crew.seed }

-- the numbers of a crew are within their limits
pub record IsCrew (crew : Crew) : Type 0 where
  pub some : 1 ≤ crew.workers
  pub few : crew.workers ≤ max_workers
  pub plan : IsPlan (plan_of crew)

-- how a worker's run ended, over the log at the end: its trail is one of the problem and the plan
abbrev pub IsEndOver : Instance → Plan → List Entry → Stopped → TrailState → Type 0
IsEndOver p plan log stopped.Final t = IsTrailOf p plan t × IsClosed log
IsEndOver p plan log stopped.Spent t = IsSpentTrail p plan log t
IsEndOver p plan log stopped.Memory t = IsTrailOf p plan t

-- each end with its trail
abbrev pub AreEndsOver : Instance → Plan → List Entry → List Stopped → List TrailState → Type 0
AreEndsOver p plan log [] [] = Unit {0}
AreEndsOver p plan log [] (t ∷ ts) = ⊥
AreEndsOver p plan log (s ∷ ss) [] = ⊥
AreEndsOver p plan log (s ∷ ss) (t ∷ ts) = IsEndOver p plan log s t × AreEndsOver p plan log ss ts

-- how a crew ended: the log, and as many ends as workers, each with its trail
pub record IsCrewEnd (p : Instance) (crew : Crew) (e : CrewEnd) : Type 0 where
  pub problem : e.log.problem ≡ p
  pub log : IsLog e.log
  pub count : vec_len e.stopped ≡ crew.workers
  pub ends : AreEndsOver p (plan_of crew) e.log.entries e.stopped.items e.trails.items
  -- only its workers made entries
  pub makers : (w : ℕ) → crew.workers ≤ w → made_by w e.log.entries ≡ []
