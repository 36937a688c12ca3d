-- The report of what solves a model, the outcome after it was printed, and what is left of the trails.
use Rattle.std.proofs.Common.{◌≡◌, ℕ, take, List, [], length, ℤ, IfSome, refl, sym, ap, ◌∙◌, subst, inl, inr, append-nil}
use Rattle.std.specs.declared.option.Option.{Option}
use Rattle.std.specs.declared.option.Option.TheVariants.{None, Some}
use Rattle.std.proofs.lemmas.List.{length-map}
use Rattle.std.specs.List.{All}
use Rattle.cgm_base.specs.declared.status.Status.{Status}
use Rattle.cgm_base.specs.declared.status.Status.TheVariants as statuses
use Rattle.cgm_formula.specs.declared.assignment.Assignment.{Assignment}
use Rattle.cgm_model.specs.declared.lists.Lists.{Lists}
use Rattle.cgm_evolve.specs.Pairs.{Pair}
use Rattle.cgm_obj.specs.Vector.{objective_number, vector_of}
use Rattle.cgm_atom.specs.declared.entries.Entry.{Entry}
use Rattle.cgm_atom.specs.LogState.{last_best, state_of}
use Rattle.cgm_atom.specs.Ranges.{IsPrintable}
use Rattle.cgm_shelf.specs.Shelf.{Files, Leaves, LeavesPart, ShelfState}
use Rattle.cgm_trail.specs.TrailState.{TrailState}
use Rattle.cgm_search.specs.declared.plans.Plan.{Plan}
use Rattle.cgm_encode.specs.declared.answer.Answer.{Answer}
use Rattle.cgm_encode.specs.declared.answer.Answer.TheVariants.{Exhausted, Open, Realized, Unrealizable}
use Rattle.cgm_encode.specs.declared.answer.Found.{Found}
use Rattle.cgm_solve.specs.Answers.{IsDecodedBest, IsSolved}
use Rattle.cgm_report.specs.Answers.{IsReportable, report_of}
use Rattle.cgm_report.specs.Shown.{IsShowable}
use Rattle.cgm_report.proofs.Showing.{show_quantities}
use Rattle.cgm_cli.specs.Answers.{answer_status, entries_of}
use Rattle.cgm_cli.specs.Effects.{AreTrailsExtended, IsPrinted, IsUnchanged, IsUntouched, Outside, World, outside_of}
use Rattle.cgm_cli.specs.Outcome.{AreFilesOfSearch, IsWorkOfSearch, OnlyTouches}
use Rattle.cgm_cli.specs.SolveOutcome.{HasSolveOutcome, IsCertificateCut, IsCertified, IsDelivered, Wanted}

-- ---- what is found

vector_length : (m : Lists) (pairs : List Pair) (a : Assignment) → length (vector_of m pairs a) ≡ length m.objectives
unfolding vector_of
vector_length m pairs a = length-map m.objectives (objective_number m pairs a)

pub showable : (m : Lists) (pairs : List Pair) (best : Option (List ℤ)) (found : Option Found) → IsDecodedBest m pairs best found → IfSome found (IsShowable m)
showable m pairs best None reading = tt
showable m pairs None (Some found) reading = absurd reading
showable m pairs (Some values) (Some found) reading = record {
  fits = reading.realizes.fits;
  vector = ap length reading.vector ∙ vector_length m pairs found.assignment;
}

pub vector_is : (m : Lists) (pairs : List Pair) (best : Option (List ℤ)) (found : Found) → IsDecodedBest m pairs best (Some found) → found.vector ≡ vector_of m pairs found.assignment
vector_is m pairs None found reading = absurd reading
vector_is m pairs (Some values) found reading = reading.vector

pub reportable : (m : Lists) (pairs : List Pair) (workers : ℕ) (plan : Plan) (old new : List TrailState) (answer : Answer) → IsSolved m pairs workers plan old new answer → IsReportable m answer
reportable m pairs workers plan old new (Realized found entries) solved =
    showable m pairs (last_best (state_of entries)) (Some found) solved.0.best
reportable m pairs workers plan old new (Unrealizable entries) solved = tt
reportable m pairs workers plan old new (Exhausted best spent entries) solved =
    showable m pairs (last_best (state_of entries)) best solved.0.best_is
reportable m pairs workers plan old new (Open best) solved = absurd solved

-- ---- what is printed

printed : (m : Lists) (pairs : List Pair) (want : Wanted) (found left : World) (answer : Answer) → IsSolved m pairs want.workers want.plan found.work left.work answer → IsCertified want.cert (entries_of answer) found.shelf left.shelf → IsPrinted (report_of m answer) found.sink left.sink → HasSolveOutcome want found left m pairs (answer_status answer)
printed m pairs want found left (Realized best entries) solved certified bytes = record {
  found = best;
  entries = entries;
  shown = solved.0;
  certified = certified;
  printed = subst (λ report. IsPrinted report found.sink left.sink)
      (show_quantities m pairs best (vector_is m pairs (last_best (state_of entries)) best solved.0.best)).1 bytes;
}
printed m pairs want found left (Unrealizable entries) solved certified bytes =
    record { entries = entries; shown = solved.0; certified = certified; printed = bytes }
printed m pairs want found left (Exhausted best spent entries) solved certified bytes =
    record { best = best; spent = spent; entries = entries; solved = solved; certified = certified; printed = bytes }
printed m pairs want found left (Open best) solved certified bytes = absurd solved

pub outcome : (m : Lists) (pairs : List Pair) (want : Wanted) (found left : World) (answer : Answer) (status : Status) → IsSolved m pairs want.workers want.plan found.work left.work answer → IsDelivered want.cert (entries_of answer) (report_of m answer) (answer_status answer) (outside_of found) (outside_of left) status → HasSolveOutcome want found left m pairs status
outcome m pairs want found left answer status solved (inl (certified, inl whole)) =
    subst (λ s. HasSolveOutcome want found left m pairs s) (sym whole.0) (printed m pairs want found left answer solved certified whole.1)
outcome m pairs want found left answer status solved (inl (certified, inr cut)) =
    subst (λ s. HasSolveOutcome want found left m pairs s) (sym cut.0)
    (record { answer = answer; solved = solved; lost = inr (certified, cut.1) })
outcome m pairs want found left answer status solved (inr (inl lost)) =
    subst (λ s. HasSolveOutcome want found left m pairs s) (sym lost.0)
    (record { answer = answer; solved = solved; lost = inl (lost.1, lost.2) })
outcome m pairs want found left answer status solved (inr (inr memory)) =
    subst (λ s. HasSolveOutcome want found left m pairs s) (sym memory.0) memory.2

-- ---- what is left of the files

left_others : (old new : Option Files) (name bytes : List ℕ) → Leaves old new name bytes → OnlyTouches name old new
left_others None new name bytes left = tt
left_others (Some files) None name bytes left = absurd left
left_others (Some files) (Some then) name bytes left = left.others

same_others : (old : Option Files) (name : List ℕ) → OnlyTouches name old old
same_others None name = tt
same_others (Some files) name = λ other differs. refl

part_others : (old new : Option Files) (name bytes : List ℕ) → LeavesPart old new name bytes → OnlyTouches name old new
part_others old new name bytes (inl same) =
    subst (λ files. OnlyTouches name old files) (sym same) (same_others old name)
part_others old new name bytes (inr part) = left_others old new name (take part.0 bytes) part.1

-- an answer whose certificate was written, where one was wanted
certified_files : (cert : Option (List ℕ)) (entries : List Entry) (old new : ShelfState) (answer : Answer) → IsCertified cert entries old new → AreFilesOfSearch cert old new (answer_status answer)
certified_files None entries old new answer certified = certified
certified_files (Some name) entries old new (Realized found own) certified =
    left_others old.files new.files name certified.0 certified.1.1
certified_files (Some name) entries old new (Unrealizable own) certified =
    left_others old.files new.files name certified.0 certified.1.1
certified_files (Some name) entries old new (Exhausted best spent own) certified =
    left_others old.files new.files name certified.0 certified.1.1
certified_files (Some name) entries old new (Open best) certified =
    left_others old.files new.files name certified.0 certified.1.1

certified_write : (cert : Option (List ℕ)) (entries : List Entry) (old new : ShelfState) → IsCertified cert entries old new → AreFilesOfSearch cert old new statuses.Write
certified_write None entries old new certified = certified
certified_write (Some name) entries old new certified = left_others old.files new.files name certified.0 certified.1.1

cut_files : (cert : Option (List ℕ)) (entries : List Entry) (old new : ShelfState) → IsCertificateCut cert entries old new → AreFilesOfSearch cert old new statuses.Write
cut_files None entries old new cut = absurd cut
cut_files (Some name) entries old new cut = part_others old.files new.files name cut.0 cut.1.1

untouched_others : (name : List ℕ) (old new : ShelfState) → IsUntouched old new → OnlyTouches name old.files new.files
untouched_others name old new same = part_others old.files new.files name [] (inl same.same)

pub untouched_files : (cert : Option (List ℕ)) (old new : ShelfState) (status : Status) → IsUntouched old new → AreFilesOfSearch cert old new status
untouched_files None old new status same = same
untouched_files (Some name) old new statuses.Done same = untouched_others name old new same
untouched_files (Some name) old new statuses.Unrealizable same = untouched_others name old new same
untouched_files (Some name) old new statuses.Open same = untouched_others name old new same
untouched_files (Some name) old new statuses.Write same = untouched_others name old new same
untouched_files (Some name) old new statuses.Memory same = same
untouched_files (Some name) old new statuses.Usage same = same
untouched_files (Some name) old new statuses.Text same = same
untouched_files (Some name) old new statuses.Earlier same = same
untouched_files (Some name) old new statuses.Limit same = same
untouched_files (Some name) old new statuses.Certificate same = same
untouched_files (Some name) old new statuses.Read same = same

pub files_left : (cert : Option (List ℕ)) (report : List ℕ) (found left : Outside) (answer : Answer) (status : Status) → IsDelivered cert (entries_of answer) report (answer_status answer) found left status → AreFilesOfSearch cert found.shelf left.shelf status
files_left cert report found left answer status (inl (certified, inl whole)) =
    subst (λ s. AreFilesOfSearch cert found.shelf left.shelf s) (sym whole.0) (certified_files cert (entries_of answer) found.shelf left.shelf answer certified)
files_left cert report found left answer status (inl (certified, inr cut)) =
    subst (λ s. AreFilesOfSearch cert found.shelf left.shelf s) (sym cut.0) (certified_write cert (entries_of answer) found.shelf left.shelf certified)
files_left cert report found left answer status (inr (inl lost)) =
    subst (λ s. AreFilesOfSearch cert found.shelf left.shelf s) (sym lost.0) (cut_files cert (entries_of answer) found.shelf left.shelf lost.1)
files_left cert report found left answer status (inr (inr memory)) =
    untouched_files cert found.shelf left.shelf status memory.1

-- ---- what is left of the trails

none_gained : (old new : List TrailState) → IsUnchanged old new → AreTrailsExtended old new
none_gained old new same = ([], same ∙ sym (append-nil old))

pub unchanged : (old new : List TrailState) (status : Status) → IsUnchanged old new → IsWorkOfSearch old new status
unchanged old new statuses.Open same = none_gained old new same
unchanged old new statuses.Write same = none_gained old new same
unchanged old new statuses.Memory same = none_gained old new same
unchanged old new statuses.Done same = same
unchanged old new statuses.Unrealizable same = same
unchanged old new statuses.Usage same = same
unchanged old new statuses.Text same = same
unchanged old new statuses.Earlier same = same
unchanged old new statuses.Limit same = same
unchanged old new statuses.Certificate same = same
unchanged old new statuses.Read same = same

pub extended : (m : Lists) (pairs : List Pair) (workers : ℕ) (plan : Plan) (old new : List TrailState) (answer : Answer) → IsSolved m pairs workers plan old new answer → AreTrailsExtended old new
extended m pairs workers plan old new (Realized found entries) solved = none_gained old new solved.2
extended m pairs workers plan old new (Unrealizable entries) solved = none_gained old new solved.2
extended m pairs workers plan old new (Exhausted best spent entries) solved = (solved.2.trails, solved.2.added)
extended m pairs workers plan old new (Open best) solved = absurd solved

pub work_of_answer : (m : Lists) (pairs : List Pair) (workers : ℕ) (plan : Plan) (old new : List TrailState) (answer : Answer) → IsSolved m pairs workers plan old new answer → IsWorkOfSearch old new (answer_status answer)
work_of_answer m pairs workers plan old new (Realized found entries) solved = solved.2
work_of_answer m pairs workers plan old new (Unrealizable entries) solved = solved.2
work_of_answer m pairs workers plan old new (Exhausted best spent entries) solved = (solved.2.trails, solved.2.added)
work_of_answer m pairs workers plan old new (Open best) solved = absurd solved

pub work_left : (m : Lists) (pairs : List Pair) (want : Wanted) (old new : List TrailState) (found left : Outside) (answer : Answer) (status : Status) → IsSolved m pairs want.workers want.plan old new answer → IsDelivered want.cert (entries_of answer) (report_of m answer) (answer_status answer) found left status → IsWorkOfSearch old new status
work_left m pairs want old new found left answer status solved (inl (certified, inl whole)) =
    subst (λ s. IsWorkOfSearch old new s) (sym whole.0) (work_of_answer m pairs want.workers want.plan old new answer solved)
work_left m pairs want old new found left answer status solved (inl (certified, inr cut)) =
    subst (λ s. IsWorkOfSearch old new s) (sym cut.0) (extended m pairs want.workers want.plan old new answer solved)
work_left m pairs want old new found left answer status solved (inr (inl lost)) =
    subst (λ s. IsWorkOfSearch old new s) (sym lost.0) (extended m pairs want.workers want.plan old new answer solved)
work_left m pairs want old new found left answer status solved (inr (inr memory)) =
    subst (λ s. IsWorkOfSearch old new s) (sym memory.0) (extended m pairs want.workers want.plan old new answer solved)

-- a certificate can write the entries of each answer
pub printable : (m : Lists) (pairs : List Pair) (workers : ℕ) (plan : Plan) (old new : List TrailState) (answer : Answer) → IsSolved m pairs workers plan old new answer → All IsPrintable (entries_of answer)
printable m pairs workers plan old new (Realized found entries) solved = solved.1
printable m pairs workers plan old new (Unrealizable entries) solved = solved.1
printable m pairs workers plan old new (Exhausted best spent entries) solved = solved.1
printable m pairs workers plan old new (Open best) solved = absurd solved
