-- Why an event isn't taken, and why a list of them isn't.
use Rattle.std.specs.Prelude.{◌≡◌, List}
use Rattle.cgm_core.specs.declared.stops.CoreStop.{CoreStop}
use Rattle.cgm_core.specs.declared.stops.CoreStop.TheVariants.{Illegal, Memory}
use Rattle.cgm_log.specs.declared.events.Event.{Event}
use Rattle.cgm_log.specs.Events.{CoreState, IsAllowedEvent, IsFirstIllegal}

-- of one event
abbrev pub IsCoreStop : CoreState → Event → CoreStop → Type 0
IsCoreStop s e (Illegal place) = (place ≡ 1) × ¬ IsAllowedEvent s e
IsCoreStop s e Memory = Unit {0}

-- of a list of them
abbrev pub IsReplayStop : CoreState → List Event → CoreStop → Type 0
IsReplayStop s events (Illegal place) = IsFirstIllegal s events place
IsReplayStop s events Memory = Unit {0}
