-- A search between two of its units: what it keeps, what a unit does, and how many trades it may still need.
use Rattle.std.specs.Prelude.{◌≡◌, false, ℕ, ◌+◌, ◌-◌, ◌^◌, ◌<◌, ◌≤◌, [], Option, Some, None, IfSome, Result, Ok, Err}
use Rattle.cgm_atom.specs.declared.entries.Hint.{Hint}
use Rattle.cgm_atom.specs.Acceptance.{IsClosed}
use Rattle.cgm_atom.specs.Instance.{Instance, var_count}
use Rattle.cgm_atom.specs.Limits.{max_workers}
use Rattle.cgm_learn.specs.Learning.{IsConflictIn}
use Rattle.cgm_log.specs.Seats.{Seat}
use Rattle.cgm_search.specs.declared.plans.Plan.{Plan}
use Rattle.cgm_search.specs.declared.plans.Stopped.{Stopped}
use Rattle.cgm_search.specs.declared.plans.Stopped.TheVariants as stopped
use Rattle.cgm_search.specs.declared.searches.Search.{Search}
use Rattle.cgm_search.specs.Choosing.{IsChoiceOf, IsOwnOrder}
use Rattle.cgm_search.specs.Knowing.{IsKnowledge, seen, seen_state}
use Rattle.cgm_search.specs.Storing.{IsSeenName}
use Rattle.cgm_trail.specs.declared.changes.Swept.{Swept}
use Rattle.cgm_trail.specs.declared.changes.Swept.TheVariants as swept
use Rattle.cgm_trail.specs.Steps.{AreReasoned}
use Rattle.cgm_trail.specs.TrailState.{IsAtRest, TrailState, box_of, level_of}

abbrev pub max_budget : ℕ
max_budget = 2 ^ 40

abbrev pub max_restarts : ℕ
max_restarts = 1000

-- the numbers of a plan are within their limits
pub record IsPlan (plan : Plan) : Type 0 where
  pub budget : plan.budget ≤ max_budget
  pub restarts : plan.restarts ≤ max_restarts

-- the trail of a problem, with no more moves and restarts than the plan says
pub record IsTrailOf (p : Instance) (plan : Plan) (t : TrailState) : Type 0 where
  pub problem : t.problem ≡ p
  pub moves : t.moves ≤ plan.budget
  pub restarts : t.restarts ≤ plan.restarts

-- each change that isn't a decision is one that narrowing by its hint makes, and the hint names what was seen
abbrev pub AreSeenReasons : Search → Type 0
AreSeenReasons s =
    AreReasoned (IsSeenName s.known.problem (seen_state s.known)) s.known.problem.bounds s.trail.changes

pub record IsReady (s : Search) : Type 0 where
  pub known : IsKnowledge s.known
  pub still_open : (seen_state s.known).closed ≡ false
  pub trail : IsTrailOf s.known.problem s.plan s.trail
  pub reasons : AreSeenReasons s
  pub choice : IsChoiceOf (var_count s.known.problem) s.choice
  pub own_order : IsOwnOrder (var_count s.known.problem) s.plan.seed s.worker s.choice
  pub plan : IsPlan s.plan
  pub worker : s.worker < max_workers

-- the search has the problem of its trader and its own number there, and knows what the trader was told
pub record Sits (s : Search) (seat : Seat) : Type 0 where
  pub same_problem : seat.problem ≡ s.known.problem
  pub same_entries : seat.told ≡ seen s.known
  pub own_number : IfSome seat.number (λ n. s.worker ≡ n)

-- what stays, also for want of memory
pub record IsKeptSearch (old new : Search) : Type 0 where
  pub problem : new.known.problem ≡ old.known.problem
  pub plan : new.plan ≡ old.plan
  pub worker : new.worker ≡ old.worker
  pub trail : IsTrailOf old.known.problem old.plan new.trail

-- what a trade leaves of a search: problem, trail, order, plan and number stay
pub record IsTradedIn (old new : Search) : Type 0 where
  pub problem : new.known.problem ≡ old.known.problem
  pub trail : new.trail ≡ old.trail
  pub choice : new.choice ≡ old.choice
  pub plan : new.plan ≡ old.plan
  pub worker : new.worker ≡ old.worker

-- how many trades a search may still need: one for each move that is left, one for each level, and one for a closing lemma
abbrev pub need : Search → ℕ
need s = s.plan.budget - s.trail.moves + level_of s.trail.changes + 1

-- ---- how propagation ends

-- what the hint names is in conflict with the trail's box
abbrev pub IsConflictOf : Search → Hint → Type 0
IsConflictOf s h = IsConflictIn s.known.problem (seen_state s.known) [] (box_of s.trail) h

abbrev pub IsSearchOutcome : {E : Type 0} → Search → Result Swept E → Type 0
IsSearchOutcome s (Ok swept.Quiet) = IsAtRest s.known.problem (box_of s.trail)
IsSearchOutcome s (Ok (swept.Conflict h)) = IsConflictOf s h
IsSearchOutcome s (Ok swept.Spent) = s.trail.moves ≡ s.plan.budget
IsSearchOutcome s (Err e) = Unit {0}

-- ---- a unit

-- it goes on, with one move more, and the trades that it made were needed no more; or it ended
abbrev pub IsUnit : (old new : Search) → (before after : Seat) → Option Stopped → Type 0
IsUnit old new before after None =
    IsReady new
    × Sits new after
    × (old.trail.moves < new.trail.moves)
    × (need new + before.trades ≤ need old + after.trades)
IsUnit old new before after (Some stopped.Final) = IsClosed after.told
IsUnit old new before after (Some stopped.Spent) =
    IsReady new × Sits new after × (new.trail.moves ≡ new.plan.budget)
IsUnit old new before after (Some stopped.Memory) = Unit {0}

-- the seat with one trade more to make
abbrev pub before_trade : Seat → Seat
before_trade seat = record seat { trades = seat.trades + 1 }
