-- The outcome of `solve` for a model: the report of its answer, and before it the certificate where one is wanted.
use Rattle.std.specs.Prelude.{◌≡◌, ℕ, ◌⊎◌, List, Option, None, Some}
use Rattle.cgm_base.specs.declared.status.Status.{Status}
use Rattle.cgm_base.specs.declared.status.Status.TheVariants.{Done, Unrealizable, Open, Write, Memory}
use Rattle.cgm_shelf.specs.Faults.{Rose}
use Rattle.cgm_shelf.specs.Shelf.{Leaves, LeavesPart, ShelfState}
use Rattle.cgm_model.specs.declared.lists.Lists.{Lists}
use Rattle.cgm_evolve.specs.Pairs.{Pair}
use Rattle.cgm_atom.specs.declared.entries.Entry.{Entry}
use Rattle.cgm_search.specs.declared.plans.Plan.{Plan}
use Rattle.cgm_encode.specs.declared.answer.Answer.{Answer}
use Rattle.cgm_encode.specs.declared.answer.Answer.TheVariants as answers
use Rattle.cgm_encode.specs.declared.answer.Found.{Found}
use Rattle.cgm_cert.specs.Fault.{IsTextOf}
use Rattle.cgm_solve.specs.Answers.{IsSolved, ShowsRealized, ShowsUnrealizable}
use Rattle.cgm_report.specs.Answers.{exhausted, report_of}
use Rattle.cgm_report.specs.Report.{realized, unrealizable}
use Rattle.cgm_cli.specs.Answers.{entries_of}
use Rattle.cgm_cli.specs.Effects.{Outside, World, IsCutOff, IsPrinted, IsTold, IsUntouched, PrintsReport}
use Rattle.cgm_cli.specs.FaultLines.{memory_fault, write_fault}

-- ---- the certificate

-- the file that is named for the certificate, if one is, holds exactly the certificate of these entries, and every other file is as before; where none is named, no file has changed
abbrev pub IsCertified : Option (List ℕ) → List Entry → ShelfState → ShelfState → Type 0
IsCertified None entries old new = IsUntouched old new
IsCertified (Some name) entries old new =
    (text : List ℕ) × (IsTextOf text entries × Leaves old.files new.files name text)

-- the shelf failed over the certificate: the named file is as before or holds a front of it, and every other file is as before
abbrev pub IsCertificateCut : Option (List ℕ) → List Entry → ShelfState → ShelfState → Type 0
IsCertificateCut None entries old new = ⊥
IsCertificateCut (Some name) entries old new =
    (text : List ℕ) × (
    IsTextOf text entries × LeavesPart old.files new.files name text
    × Rose old.write_faults new.write_faults
    )

-- the certificate, if one is wanted, was written and then the report, unless the shelf, the sink or memory failed; both texts are made before either is written
abbrev pub IsDelivered :
    Option (List ℕ) → List Entry → List ℕ → Status → Outside → Outside → Status → Type 0
IsDelivered cert entries report answer found left status =
    (IsCertified cert entries found.shelf left.shelf
    × PrintsReport report answer found.sink left.sink status)
    ⊎ (((status ≡ Write) × IsCertificateCut cert entries found.shelf left.shelf
    × IsTold write_fault found.sink left.sink)
    ⊎ ((status ≡ Memory) × IsUntouched found.shelf left.shelf
    × IsTold memory_fault found.sink left.sink))

-- ---- the outcome

-- what `solve` is asked for, beside the model: how many workers search and by which plan each does, and the file of the certificate if one is wanted
pub record Wanted : Type 0 where
  pub workers : ℕ
  pub plan : Plan
  pub cert : Option (List ℕ)

abbrev pub wanted : ℕ → Plan → Option (List ℕ) → Wanted
wanted workers plan cert = record { workers = workers; plan = plan; cert = cert }

-- the report of a least realization was printed, and entries show that it is one
pub record PrintsRealized (cert : Option (List ℕ)) (before after : World) (m : Lists)
    (earlier : List Pair) : Type 0 where
  pub found : Found
  pub entries : List Entry
  pub shown : ShowsRealized m earlier entries found
  pub certified : IsCertified cert entries before.shelf after.shelf
  pub printed : IsPrinted (realized m earlier found.assignment) before.sink after.sink

-- that there is no realization was printed, and entries show it
pub record PrintsUnrealizable (cert : Option (List ℕ)) (before after : World) (m : Lists)
    (earlier : List Pair) : Type 0 where
  pub entries : List Entry
  pub shown : ShowsUnrealizable m earlier entries
  pub certified : IsCertified cert entries before.shelf after.shelf
  pub printed : IsPrinted unrealizable before.sink after.sink

-- the budgets are spent: as many trails as workers came behind those before; the last best of the entries was printed, and what the trails rest on is among them
pub record PrintsExhausted (want : Wanted) (before after : World) (m : Lists)
    (earlier : List Pair) : Type 0 where
  pub best : Option Found
  pub spent : List ℕ
  pub entries : List Entry
  pub solved : IsSolved m earlier want.workers want.plan before.work after.work
      (answers.Exhausted best spent entries)
  pub certified : IsCertified want.cert entries before.shelf after.shelf
  pub printed : IsPrinted (exhausted m best spent) before.sink after.sink

-- there is an answer, and the shelf failed over its certificate, or after that the sink over its report
pub record IsLost (want : Wanted) (before after : World) (m : Lists)
    (earlier : List Pair) : Type 0 where
  pub answer : Answer
  pub solved : IsSolved m earlier want.workers want.plan before.work after.work answer
  pub lost : (IsCertificateCut want.cert (entries_of answer) before.shelf after.shelf
      × IsTold write_fault before.sink after.sink)
      ⊎ (IsCertified want.cert (entries_of answer) before.shelf after.shelf
      × IsCutOff (report_of m answer) before.sink after.sink)

-- `solve` by so many workers, with what is known of an earlier realization
abbrev pub HasSolveOutcome : Wanted → World → World → Lists → List Pair → Status → Type 0
HasSolveOutcome want found left m earlier Done = PrintsRealized want.cert found left m earlier
HasSolveOutcome want found left m earlier Unrealizable =
    PrintsUnrealizable want.cert found left m earlier
HasSolveOutcome want found left m earlier Open = PrintsExhausted want found left m earlier
HasSolveOutcome want found left m earlier Write = IsLost want found left m earlier
HasSolveOutcome want found left m earlier Memory = IsTold memory_fault found.sink left.sink
HasSolveOutcome want found left m earlier status = ⊥
