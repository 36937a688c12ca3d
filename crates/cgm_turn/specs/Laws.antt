-- Laws over the turn: a trade at it is the core's.
use Rattle.std.specs.Prelude.{◌≡◌, ◌++◌, length, Some, Ok}
use Rattle.cgm_log.specs.declared.batches.Batch.{Batch}
use Rattle.cgm_log.specs.declared.batches.Traded.{Traded}
use Rattle.cgm_log.specs.Landing.{IsProperBatch}
use Rattle.cgm_log.specs.Trading.{news_of}
use Rattle.cgm_log.specs.declared.events.Event.TheVariants.{Trade}
use Rattle.cgm_log.specs.Events.{CoreState, IsAllowedEvent, after_event, seen_by}
use Rattle.cgm_turn.specs.Passes.{IsTradeOf, PassState}

-- in each state of the core whose log is what was told and the news, and whose worker has seen what was told, the trade
-- is allowed, the log after it is what the pass was told then, and the worker has seen all of it
abbrev pub TradesAreTheCores : Type 0
TradesAreTheCores =
    (old new : PassState) (b : Batch) (t : Traded) (s : CoreState)
    → IsProperBatch old.problem old.told b
    → b.by ≡ old.number
    → IsTradeOf old b (Ok t) new
    → s.problem ≡ old.problem
    → s.log ≡ old.told ++ news_of t
    → seen_by s old.number ≡ Some (length old.told)
    → IsAllowedEvent s (Trade old.number b)
    × ((after_event s (Trade old.number b)).log ≡ new.told)
    × (seen_by (after_event s (Trade old.number b)) old.number ≡ Some (length new.told))
