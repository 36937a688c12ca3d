-- The report of what entries show, and what comes of the entries after it was printed.
use Rattle.std.proofs.Common.{List, sym, subst, inl, inr}
use Rattle.std.specs.declared.option.Option.TheVariants.{Some}
use Rattle.cgm_base.specs.declared.status.Status.{Status}
use Rattle.cgm_shelf.specs.Sink.{SinkState}
use Rattle.cgm_model.specs.declared.lists.Lists.{Lists}
use Rattle.cgm_evolve.specs.Pairs.{Pair}
use Rattle.cgm_atom.specs.declared.entries.Entry.{Entry}
use Rattle.cgm_atom.specs.LogState.{last_best, state_of}
use Rattle.cgm_encode.specs.declared.answer.Answer.{Answer}
use Rattle.cgm_encode.specs.declared.answer.Answer.TheVariants.{Exhausted, Open, Realized, Unrealizable}
use Rattle.cgm_solve.specs.Answers.{IsShown}
use Rattle.cgm_report.specs.Answers.{IsReportable, report_of}
use Rattle.cgm_report.proofs.Showing.{show_quantities}
use Rattle.cgm_cli.specs.Answers.{answer_status}
use Rattle.cgm_cli.specs.CheckOutcome.{HasEntriesOutcome}
use Rattle.cgm_cli.specs.Effects.{IsPrinted, PrintsReportOrLacksMemory}
use Rattle.cgm_cli.proofs.Solving.{showable, vector_is}

pub shown_reportable : (m : Lists) (pairs : List Pair) (entries : List Entry) (answer : Answer) → IsShown m pairs entries answer → IsReportable m answer
shown_reportable m pairs entries (Realized found own) shown =
    showable m pairs (last_best (state_of entries)) (Some found) shown.1.best
shown_reportable m pairs entries (Unrealizable own) shown = tt
shown_reportable m pairs entries (Exhausted best spent own) shown = absurd shown
shown_reportable m pairs entries (Open best) shown = showable m pairs (last_best (state_of entries)) best shown.best_is

printed : (m : Lists) (pairs : List Pair) (entries : List Entry) (old new : SinkState) (answer : Answer) → IsShown m pairs entries answer → IsPrinted (report_of m answer) old new → HasEntriesOutcome m pairs entries old new (answer_status answer)
printed m pairs entries old new (Realized found own) shown bytes = record {
  found = found;
  shown = shown.1;
  printed = subst (λ report. IsPrinted report old new)
      (show_quantities m pairs found (vector_is m pairs (last_best (state_of entries)) found shown.1.best)).1 bytes;
}
printed m pairs entries old new (Unrealizable own) shown bytes = (shown.1, bytes)
printed m pairs entries old new (Exhausted best spent own) shown bytes = absurd shown
printed m pairs entries old new (Open best) shown bytes = record { best = best; open_with = shown; printed = bytes }

pub checked : (m : Lists) (pairs : List Pair) (entries : List Entry) (old new : SinkState) (answer : Answer) (status : Status) → IsShown m pairs entries answer → PrintsReportOrLacksMemory (report_of m answer) (answer_status answer) old new status → HasEntriesOutcome m pairs entries old new status
checked m pairs entries old new answer status shown (inl (inl whole)) =
    subst (λ s. HasEntriesOutcome m pairs entries old new s) (sym whole.0) (printed m pairs entries old new answer shown whole.1)
checked m pairs entries old new answer status shown (inl (inr cut)) =
    subst (λ s. HasEntriesOutcome m pairs entries old new s) (sym cut.0) (record { answer = answer; shown = shown; cut = cut.1 })
checked m pairs entries old new answer status shown (inr memory) =
    subst (λ s. HasEntriesOutcome m pairs entries old new s) (sym memory.0) memory.1
