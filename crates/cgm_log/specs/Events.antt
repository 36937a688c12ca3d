-- The events of a search: a log, for each worker that is in how many of its entries that worker has seen, and what each act of a worker does to them.
use Rattle.std.specs.Prelude.{◌≡◌, ℕ, ◌+◌, ◌<◌, ◌≤◌, List, [], ◌∷◌, ◌++◌, length, slice_get, slice_set, replicate, take, IfSome, IsSomeAnd, IsSome, Option, Some, None}
use Rattle.std.specs.Option.{option_flatten}
use Rattle.cgm_atom.specs.declared.entries.Entry.{Entry}
use Rattle.cgm_atom.specs.Instance.{Instance}
use Rattle.cgm_atom.specs.Limits.{max_workers}
use Rattle.cgm_log.specs.Landing.{IsProperBatch, with_landed}
use Rattle.cgm_log.specs.declared.events.Event.{Event}
use Rattle.cgm_log.specs.declared.events.Event.TheVariants.{Enter, Trade, Look, Leave}

pub record CoreState : Type 0 where
  pub problem : Instance
  pub log : List Entry
  -- for each worker, by number, how many entries it has seen, if it is in
  pub fronts_seen : List (Option ℕ)

abbrev pub begin : Instance → CoreState
begin p = record { problem = p; log = []; fronts_seen = replicate max_workers None }

abbrev pub seen_by : CoreState → ℕ → Option ℕ
seen_by s worker = option_flatten (slice_get s.fronts_seen worker)

-- ---- events

abbrev pub IsAllowedEvent : CoreState → Event → Type 0
IsAllowedEvent s (Enter worker) = (worker < max_workers) × (seen_by s worker ≡ None)
IsAllowedEvent s (Trade worker batch) =
    IsSomeAnd (seen_by s worker) (λ n. IsProperBatch s.problem (take n s.log) batch × (batch.by ≡ worker))
IsAllowedEvent s (Look worker count) = IsSomeAnd (seen_by s worker) (λ n. (n ≤ count) × (count ≤ length s.log))
IsAllowedEvent s (Leave worker) = IsSome (seen_by s worker)

-- the worker has seen so many
abbrev pub with_seen : CoreState → ℕ → Option ℕ → CoreState
with_seen s worker seen = record s { fronts_seen = slice_set s.fronts_seen worker seen }

abbrev pub traded : CoreState → ℕ → List Entry → CoreState
traded s worker log =
    record s { log = log; fronts_seen = slice_set s.fronts_seen worker (Some (length log)) }

abbrev pub after_event : CoreState → Event → CoreState
after_event s (Enter worker) = with_seen s worker (Some 0)
after_event s (Trade worker batch) = traded s worker (with_landed s.problem s.log batch)
after_event s (Look worker count) = s
after_event s (Leave worker) = with_seen s worker None

-- ---- lists of events

abbrev pub AreAllowedEvents : CoreState → List Event → Type 0
AreAllowedEvents s [] = Unit {0}
AreAllowedEvents s (e ∷ events) = IsAllowedEvent s e × AreAllowedEvents (after_event s e) events

abbrev pub after_events : CoreState → List Event → CoreState
after_events s [] = s
after_events s (e ∷ events) = after_events (after_event s e) events

-- the event at this place, from 1, is the first that isn't allowed: those before it are, and after them it isn't
pub record IsFirstIllegal (s : CoreState) (events : List Event) (place : ℕ) : Type 0 where
  pub before : List Event
  pub event : Event
  pub others : List Event
  pub parts : events ≡ before ++ event ∷ others
  pub place_is : place ≡ length before + 1
  pub allowed : AreAllowedEvents s before
  pub refused : ¬ IsAllowedEvent (after_events s before) event

-- ---- what holds after them

-- what each worker has seen is a front of the log
abbrev pub AreFronts : CoreState → Type 0
AreFronts s = (worker : ℕ) → IfSome (seen_by s worker) (λ n. n ≤ length s.log)
