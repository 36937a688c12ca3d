-- The workers that ended, before the turn is closed: what each was told is known to the first pass.
use Rattle.std.specs.Prelude.{◌≡◌, ◌⊎◌, ℕ, ◌+◌, ◌≤◌, ◌<◌, List, [], ◌∷◌, vec_len, vec_capacity}
use Rattle.cgm_atom.specs.Acceptance.{IsClosed}
use Rattle.cgm_atom.specs.declared.entries.Entry.{Entry}
use Rattle.cgm_atom.specs.Instance.{Instance}
use Rattle.cgm_search.specs.declared.plans.Plan.{Plan}
use Rattle.cgm_search.specs.declared.plans.Stopped.{Stopped}
use Rattle.cgm_search.specs.declared.plans.Stopped.TheVariants as stopped
use Rattle.cgm_search.specs.Searching.{IsTrailOf}
use Rattle.cgm_search.specs.Spending.{IsSpentTrail}
use Rattle.cgm_trail.specs.TrailState.{TrailState}
use Rattle.cgm_crew.specs.Crews.{plan_of}
use Rattle.cgm_crew.specs.declared.crews.Crew.{Crew}
use Rattle.cgm_crew.specs.declared.ending.Ended.{Ended}
use Rattle.cgm_crew.specs.declared.ending.Places.{Places}
use Rattle.cgm_turn.specs.declared.views.Joined.{Joined}
use Rattle.cgm_turn.specs.Passes.{PassState, TurnState}

-- room for as many as the crew has workers, and nothing in it yet
pub record ArePlacesFor (crew : Crew) (places : Places) : Type 0 where
  pub no_stopped : places.stopped.items ≡ []
  pub no_trails : places.trails.items ≡ []
  pub stopped_room : crew.workers ≤ vec_capacity places.stopped
  pub trails_room : crew.workers ≤ vec_capacity places.trails

-- these entries were seen by a joined pass, or by the first when that one was joined
abbrev pub WereSeen : List Entry → List Joined → Type 0
WereSeen told [] = ⊥
WereSeen told (r ∷ others) = (r.seen ≡ told) ⊎ ((r.before ≡ told) ⊎ WereSeen told others)

abbrev pub HasSeen : PassState → List Entry → Type 0
HasSeen first told = (first.told ≡ told) ⊎ WereSeen told first.joined

abbrev pub KeepsSeen : PassState → PassState → Type 0
KeepsSeen old new = (told : List Entry) → HasSeen old told → HasSeen new told

-- a worker was told a closed list
pub record IsFinalBy (first : PassState) : Type 0 where
  pub told : List Entry
  pub closed : IsClosed told
  pub seen : HasSeen first told

-- a worker spent its budget over what it was told
pub record IsSpentBy (p : Instance) (plan : Plan) (first : PassState) (t : TrailState) : Type 0 where
  pub told : List Entry
  pub spent : IsSpentTrail p plan told t
  pub seen : HasSeen first told

abbrev pub IsEndBy : Instance → Plan → PassState → Stopped → TrailState → Type 0
IsEndBy p plan first stopped.Final t = IsTrailOf p plan t × IsFinalBy first
IsEndBy p plan first stopped.Spent t = IsSpentBy p plan first t
IsEndBy p plan first stopped.Memory t = IsTrailOf p plan t

-- the same of its own pass
abbrev pub IsOwnEnd : Instance → Plan → PassState → Stopped → TrailState → Type 0
IsOwnEnd p plan pass stopped.Final t = IsTrailOf p plan t × IsClosed pass.told
IsOwnEnd p plan pass stopped.Spent t = IsSpentTrail p plan pass.told t
IsOwnEnd p plan pass stopped.Memory t = IsTrailOf p plan t

abbrev pub AreEndsBy : Instance → Plan → PassState → List Stopped → List TrailState → Type 0
AreEndsBy p plan first [] [] = Unit {0}
AreEndsBy p plan first [] (t ∷ ts) = ⊥
AreEndsBy p plan first (s ∷ ss) [] = ⊥
AreEndsBy p plan first (s ∷ ss) (t ∷ ts) = IsEndBy p plan first s t × AreEndsBy p plan first ss ts

-- the numbers of the joined passes
abbrev pub AreBelow : ℕ → List Joined → Type 0
AreBelow count [] = Unit {0}
AreBelow count (r ∷ others) = (r.number < count) × AreBelow count others

-- the first pass, while some of the others are out
pub record IsJoining (turn : TurnState) (crew : Crew) (e : Ended) : Type 0 where
  pub problem : e.first.problem ≡ turn.problem
  pub table_is : e.first.table ≡ turn.table
  pub number : e.first.number ≡ 0
  pub below : AreBelow crew.workers e.first.joined
  pub ends : AreEndsBy turn.problem (plan_of crew) e.first e.places.stopped.items e.places.trails.items
  pub stopped_count : vec_len e.places.stopped + e.first.out ≡ crew.workers
  pub trails_count : vec_len e.places.trails + e.first.out ≡ crew.workers
  pub stopped_room : crew.workers ≤ vec_capacity e.places.stopped
  pub trails_room : crew.workers ≤ vec_capacity e.places.trails
