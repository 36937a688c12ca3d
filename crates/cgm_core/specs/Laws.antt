-- Laws over every list of events.
use Rattle.std.specs.Prelude.{◌≡◌, List, ◌++◌, None}
use Rattle.std.specs.List.{All}
use Rattle.cgm_atom.specs.declared.entries.Entry.{Entry}
use Rattle.cgm_atom.specs.Acceptance.{IsAccepted}
use Rattle.cgm_atom.specs.Entailment.{best_values}
use Rattle.cgm_atom.specs.Instance.{Instance, IsSolution}
use Rattle.cgm_atom.specs.Laws.{AreDescending, IsEntailed}
use Rattle.cgm_atom.specs.Limits.{IsWellFormedProblem}
use Rattle.cgm_log.specs.declared.events.Event.{Event}
use Rattle.cgm_log.specs.Events.{AreAllowedEvents, AreFronts, CoreState, after_events, begin}

-- what allowed events leave of a problem: its log is accepted, each lemma follows under the bound that it names, each
-- best is a solution and better than the one before, and what each worker has seen is a front of the log
pub record IsHistory (p : Instance) (s : CoreState) : Type 0 where
  pub problem : s.problem ≡ p
  pub accepted : IsAccepted p s.log
  pub entailed : All (IsEntailed p s.log) s.log
  pub solutions : All (IsSolution p) (best_values s.log)
  pub descending : AreDescending p None (best_values s.log)
  pub fronts : AreFronts s

abbrev pub EventsKeepLogs : Type 0
EventsKeepLogs =
    (p : Instance) (events : List Event)
    → IsWellFormedProblem p
    → AreAllowedEvents (begin p) events
    → IsHistory p (after_events (begin p) events)

-- the log begins with the log before
abbrev pub LogsGrow : Type 0
LogsGrow = (s : CoreState) (events : List Event) → (more : List Entry) × ((after_events s events).log ≡ s.log ++ more)
