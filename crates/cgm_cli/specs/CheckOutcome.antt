-- The outcome of `check` for a model: what the entries of a certificate show of it, or the certificate's first fault.
use Rattle.std.specs.Prelude.{ℕ, ◌⊎◌, List, Option, None}
use Rattle.cgm_base.specs.declared.status.Status.{Status}
use Rattle.cgm_base.specs.declared.status.Status.TheVariants.{Done, Unrealizable, Certificate, Open, Write, Memory}
use Rattle.cgm_shelf.specs.Sink.{SinkState}
use Rattle.cgm_model.specs.declared.lists.Lists.{Lists}
use Rattle.cgm_evolve.specs.Pairs.{Pair}
use Rattle.cgm_atom.specs.declared.entries.BadStep.{BadStep}
use Rattle.cgm_atom.specs.declared.entries.Entry.{Entry}
use Rattle.cgm_cert.specs.declared.stop.CertKind.{CertKind}
use Rattle.cgm_cert.specs.Fault.{HasFault, IsTextOf}
use Rattle.cgm_check.specs.Verdicts.{IsRefusedAt}
use Rattle.cgm_encode.specs.declared.answer.Answer.{Answer}
use Rattle.cgm_encode.specs.declared.answer.Found.{Found}
use Rattle.cgm_encode.specs.Problem.{problem_of}
use Rattle.cgm_solve.specs.Answers.{IsShown, LeavesOpen, ShowsRealized, ShowsUnrealizable}
use Rattle.cgm_report.specs.Answers.{left_open, report_of}
use Rattle.cgm_report.specs.Report.{realized, unrealizable}
use Rattle.cgm_cli.specs.Effects.{Outside, IsCutOff, IsPrinted, IsTold}
use Rattle.cgm_cli.specs.FaultLines.{certificate_fault, entry_fault, memory_fault}
use Rattle.cgm_cli.specs.Inputs.{HasNoContent, IsContent}

-- ---- entries

-- the entries show this least realization, which was printed
pub record ReportsRealized (m : Lists) (earlier : List Pair) (entries : List Entry)
    (old new : SinkState) : Type 0 where
  pub found : Found
  pub shown : ShowsRealized m earlier entries found
  pub printed : IsPrinted (realized m earlier found.assignment) old new

-- the entries leave open which realization is least; the best of them was printed
pub record ReportsOpen (m : Lists) (earlier : List Pair) (entries : List Entry)
    (old new : SinkState) : Type 0 where
  pub best : Option Found
  pub open_with : LeavesOpen m earlier entries best
  pub printed : IsPrinted (left_open m best) old new

-- this entry, counted from 1, is the first that isn't accepted, and the test that it fails was told
pub record IsEntryFault (m : Lists) (earlier : List Pair) (entries : List Entry)
    (old new : SinkState) : Type 0 where
  pub step : ℕ
  pub why : BadStep
  pub refused : IsRefusedAt (problem_of m earlier) entries step why
  pub told : IsTold (entry_fault step why) old new

-- the entries show something, and the sink failed over its report
pub record IsReportLost (m : Lists) (earlier : List Pair) (entries : List Entry)
    (old new : SinkState) : Type 0 where
  pub answer : Answer
  pub shown : IsShown m earlier entries answer
  pub cut : IsCutOff (report_of m answer) old new

-- what comes of these entries
abbrev pub HasEntriesOutcome :
    Lists → List Pair → List Entry → SinkState → SinkState → Status → Type 0
HasEntriesOutcome m earlier entries old new Done = ReportsRealized m earlier entries old new
HasEntriesOutcome m earlier entries old new Unrealizable =
    ShowsUnrealizable m earlier entries × IsPrinted unrealizable old new
HasEntriesOutcome m earlier entries old new Open = ReportsOpen m earlier entries old new
HasEntriesOutcome m earlier entries old new Certificate = IsEntryFault m earlier entries old new
HasEntriesOutcome m earlier entries old new Write = IsReportLost m earlier entries old new
HasEntriesOutcome m earlier entries old new Memory = IsTold memory_fault old new
HasEntriesOutcome m earlier entries old new status = ⊥

-- ---- the certificate's text

-- the text's first fault is on this line, which was told
pub record IsCertificateFault (text : List ℕ) (old new : SinkState) : Type 0 where
  pub line : ℕ
  pub kind : CertKind
  pub fault : HasFault text line kind
  pub told : IsTold (certificate_fault line kind) old new

-- what comes of a text that is no certificate; a text has entries or one first fault, never both, as laws of cgm_cert say
abbrev pub HasNoEntries : List ℕ → SinkState → SinkState → Status → Type 0
HasNoEntries text old new Certificate = IsCertificateFault text old new
HasNoEntries text old new Memory = IsTold memory_fault old new
HasNoEntries text old new status = ⊥

-- the text is the certificate of these entries, and this comes of them
pub record HasEntries (m : Lists) (earlier : List Pair) (text : List ℕ) (old new : SinkState)
    (status : Status) : Type 0 where
  pub entries : List Entry
  pub text_is : IsTextOf text entries
  pub outcome : HasEntriesOutcome m earlier entries old new status

-- what comes of a text
abbrev pub HasCertificateOutcome :
    Lists → List Pair → List ℕ → SinkState → SinkState → Status → Type 0
HasCertificateOutcome m earlier text old new status =
    HasNoEntries text old new status ⊎ HasEntries m earlier text old new status

-- ---- the certificate's file, which has no limit

-- `check` with the named certificate and what is known of an earlier realization
abbrev pub HasCheckOutcome : List ℕ → Outside → Outside → Lists → List Pair → Status → Type 0
HasCheckOutcome cert found left m earlier status =
    HasNoContent cert None found left status
    ⊎ ((text : List ℕ) × (
    IsContent found.shelf.files cert None text
    × HasCertificateOutcome m earlier text found.sink left.sink status
    ))
