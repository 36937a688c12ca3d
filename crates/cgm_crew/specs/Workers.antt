-- The workers of a crew before and after their runs.
use Rattle.std.specs.Prelude.{◌≡◌, ℕ, ◌-◌, ◌<◌, IsSomeAnd, Some}
use Rattle.cgm_search.specs.declared.plans.Plan.{Plan}
use Rattle.cgm_search.specs.declared.plans.Stopped.{Stopped}
use Rattle.cgm_search.specs.Working.{IsWorker, WorkerState}
use Rattle.cgm_crew.specs.Crews.{plan_of}
use Rattle.cgm_crew.specs.declared.crews.Crew.{Crew}
use Rattle.cgm_turn.specs.Passes.{PassState, TurnState, beginner, home_of}

-- the first pass of a turn, with n passes split off
abbrev pub first_after : TurnState → ℕ → PassState
first_after turn n = record (beginner turn.table turn.problem) { splits = n; out = n }

-- a worker on this pass of the turn
pub record IsOnPass (turn : TurnState) (plan : Plan) (pass : PassState) (w : WorkerState PassState) : Type 0 where
  pub problem : w.seat.problem ≡ turn.problem
  pub plan_is : w.plan ≡ plan
  pub number : w.seat.number ≡ Some pass.number
  pub worker : w.worker ≡ pass.number
  pub home : w.home ≡ home_of pass

-- the worker of the first pass, where all others are split off
pub record IsLead (turn : TurnState) (crew : Crew) (w : WorkerState PassState) : Type 0 where
  pub problem : w.seat.problem ≡ turn.problem
  pub plan_is : w.plan ≡ plan_of crew
  pub number : w.seat.number ≡ Some 0
  pub home : w.home ≡ first_after turn (crew.workers - 1)

-- one of the others
pub record IsOther (turn : TurnState) (crew : Crew) (w : WorkerState PassState) : Type 0 where
  pub problem : w.seat.problem ≡ turn.problem
  pub plan_is : w.plan ≡ plan_of crew
  pub number : IsSomeAnd w.seat.number (λ n. n < crew.workers)
  pub table_is : w.home.table ≡ turn.table

-- what a run left of a worker
pub record IsRunOf {H : Type 0} (old new : WorkerState H) : Type 0 where
  pub stopped : Stopped
  pub ended : new.ended ≡ Some stopped
  pub valid : IsWorker new
  pub problem : new.seat.problem ≡ old.seat.problem
  pub plan_is : new.plan ≡ old.plan
  pub number : new.seat.number ≡ old.seat.number
  pub home : new.home ≡ old.home

-- a worker whose run ended
pub record HasEnded {H : Type 0} (w : WorkerState H) : Type 0 where
  pub stopped : Stopped
  pub ended : w.ended ≡ Some stopped
  pub valid : IsWorker w

-- one of the others, whose run ended
pub record IsDone (turn : TurnState) (crew : Crew) (w : WorkerState PassState) : Type 0 where
  pub other : IsOther turn crew w
  pub stopped : Stopped
  pub ended : w.ended ≡ Some stopped
  pub valid : IsWorker w
