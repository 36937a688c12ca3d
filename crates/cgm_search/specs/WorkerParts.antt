-- The worker that the fields of a `Worker` and the seat of its trader give.
use Rattle.std.specs.Prelude.{◌≡◌, ◌+◌, ◌≤◌, [], Option, Some, None}
use Rattle.cgm_atom.specs.Acceptance.{IsClosed}
use Rattle.cgm_log.specs.Makers.{AreMadeBy}
use Rattle.cgm_log.specs.Seats.{Seat}
use Rattle.cgm_search.specs.declared.plans.Stopped.{Stopped}
use Rattle.cgm_search.specs.declared.plans.Stopped.TheVariants as stopped
use Rattle.cgm_search.specs.declared.searches.Search.{Search}
use Rattle.cgm_search.specs.Searching.{IsPlan, IsReady, IsTrailOf, Sits}
use Rattle.cgm_search.specs.Working.{WorkerState}
use Rattle.cgm_trail.specs.TrailState.{trail_started}

abbrev pub worker_state : {H : Type 0} → Seat → H → Search → Option Stopped → WorkerState H
worker_state seat home s ended =
    record {
      seat = seat;
      home = home;
      worker = s.worker;
      plan = s.plan;
      trail = s.trail;
      store = s.known.store;
      order = s.choice.order.variables;
      later_order = s.choice.activity.variables;
      ended = ended;
    }

-- a search that made no trade yet
pub record IsFresh (s : Search) (seat : Seat) : Type 0 where
  pub ready : IsReady s
  pub sits : Sits s seat
  pub nothing : seat.told ≡ []
  pub trail : s.trail ≡ trail_started seat.problem
  pub enough : s.plan.budget + 2 ≤ seat.trades

abbrev pub IsEndedAs : Search → Seat → Option Stopped → Type 0
IsEndedAs s seat None = IsFresh s seat
IsEndedAs s seat (Some stopped.Final) = IsClosed seat.told
IsEndedAs s seat (Some stopped.Spent) = IsReady s × Sits s seat × (s.trail.moves ≡ s.plan.budget)
IsEndedAs s seat (Some stopped.Memory) = Unit {0}

-- what a run leaves of the fields
pub record IsWhole (s : Search) (seat : Seat) (ended : Option Stopped) : Type 0 where
  pub plan : IsPlan s.plan
  pub trail : IsTrailOf seat.problem s.plan s.trail
  pub ended_as : IsEndedAs s seat ended

-- what the fields keep
pub record IsWholeWorker (s : Search) (seat : Seat) (ended : Option Stopped) : Type 0 where
  pub whole : IsWhole s seat ended
  pub own : AreMadeBy s.worker seat.own
