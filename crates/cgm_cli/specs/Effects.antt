-- What a command finds and leaves: the shelf, the sink, and the trails of workers; and what is printed in between.
use Rattle.std.specs.Prelude.{◌≡◌, ◌⊎◌, ℕ, List, ◌++◌}
use Rattle.cgm_base.specs.declared.status.Status.{Status}
use Rattle.cgm_base.specs.declared.status.Status.TheVariants.{Write, Memory}
use Rattle.cgm_shelf.specs.Faults.{Rose}
use Rattle.cgm_shelf.specs.Shelf.{ShelfState}
use Rattle.cgm_shelf.specs.Sink.{Adds, AddsPart, SinkState}
use Rattle.cgm_trail.specs.TrailState.{TrailState}
use Rattle.cgm_cli.specs.FaultLines.{memory_fault}

-- ---- what is found, and what is left

-- a shelf and a sink
pub record Outside : Type 0 where
  pub shelf : ShelfState
  pub sink : SinkState

abbrev pub outside : ShelfState → SinkState → Outside
outside shelf sink = record { shelf = shelf; sink = sink }

-- a shelf, a sink, and the trails of workers
pub record World : Type 0 where
  pub shelf : ShelfState
  pub sink : SinkState
  pub work : List TrailState

abbrev pub world : ShelfState → SinkState → List TrailState → World
world shelf sink work = record { shelf = shelf; sink = sink; work = work }

-- without the trails
abbrev pub outside_of : World → Outside
outside_of whole = outside whole.shelf whole.sink

-- no file has changed, and the count of failed starts and appends stays
pub record IsUntouched (old new : ShelfState) : Type 0 where
  pub same : new.files ≡ old.files
  pub counted : new.write_faults ≡ old.write_faults

-- the trails stay
abbrev pub IsUnchanged : List TrailState → List TrailState → Type 0
IsUnchanged old new = new ≡ old

-- the trails stay, and more may come behind them
abbrev pub AreTrailsExtended : List TrailState → List TrailState → Type 0
AreTrailsExtended old new = (gained : List TrailState) × (new ≡ old ++ gained)

-- ---- what is printed: each word tells what, then the sink as it was found, then as it was left

-- exactly these bytes were printed
abbrev pub IsPrinted : List ℕ → SinkState → SinkState → Type 0
IsPrinted bytes old new = Adds old new bytes

-- a front of these bytes was printed, and then the sink failed
pub record IsCutOff (bytes : List ℕ) (old new : SinkState) : Type 0 where
  pub front : AddsPart old new bytes
  pub failed : Rose old.faults new.faults

-- the line was printed, unless the sink failed
abbrev pub IsTold : List ℕ → SinkState → SinkState → Type 0
IsTold fault_line old new = IsPrinted fault_line old new ⊎ IsCutOff fault_line old new

-- the report was printed and its status is answered, or the sink failed
abbrev pub PrintsReport : List ℕ → Status → SinkState → SinkState → Status → Type 0
PrintsReport report status old new answer =
    ((answer ≡ status) × IsPrinted report old new) ⊎ ((answer ≡ Write) × IsCutOff report old new)

-- the line was told and its status is answered, or there was no memory for the line
abbrev pub TellsOrLacksMemory : List ℕ → Status → SinkState → SinkState → Status → Type 0
TellsOrLacksMemory fault_line status old new answer =
    ((answer ≡ status) × IsTold fault_line old new)
    ⊎ ((answer ≡ Memory) × IsTold memory_fault old new)

-- the report is printed and the status is answered, or the sink fails, or memory is wanted for the report
abbrev pub PrintsReportOrLacksMemory : List ℕ → Status → SinkState → SinkState → Status → Type 0
PrintsReportOrLacksMemory report status old new answer =
    PrintsReport report status old new answer ⊎ ((answer ≡ Memory) × IsTold memory_fault old new)
