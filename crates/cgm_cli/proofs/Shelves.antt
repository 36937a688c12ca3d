-- What a call finds on a shelf holds for the calls around it too: its files are the same, and its count of failed reads never falls.
use Rattle.std.proofs.Common.{◌≡◌, ℕ, ◌<◌, ◌≤◌, ◌⊎◌, List, length, IsSomeAnd, Option, Some, None, arith, subst, inl, inr, ◌∙◌}
use Rattle.std.proofs.lemmas.Int.{clamps}
use Rattle.cgm_base.specs.declared.status.Status.{Status}
use Rattle.cgm_base.specs.declared.status.Status.TheVariants as statuses
use Rattle.cgm_base.specs.Words.{most_bytes}
use Rattle.cgm_model.specs.declared.lists.Lists.{Lists}
use Rattle.cgm_shelf.specs.Faults.{Rose}
use Rattle.cgm_shelf.specs.Shelf.{CantRead, Files, IsMissing, Leaves, LeavesPart, OnlyReads, ShelfState, WhereTold}
use Rattle.cgm_shelf.specs.Sink.{SinkState}
use Rattle.cgm_trail.specs.TrailState.{TrailState}
use Rattle.cgm_evolve.specs.Pairs.{Pair}
use Rattle.cgm_atom.specs.declared.entries.Entry.{Entry}
use Rattle.cgm_report.specs.Answers.{report_of}
use Rattle.cgm_cli.specs.Answers.{entries_of}
use Rattle.cgm_cli.specs.CheckOutcome.{HasCheckOutcome}
use Rattle.cgm_cli.specs.CommandLine.{Command, solve, check, show, encode}
use Rattle.cgm_cli.specs.Effects.{IsCutOff, IsTold, IsUntouched, outside, world}
use Rattle.cgm_cli.specs.FaultLines.{write_fault}
use Rattle.cgm_cli.specs.Inputs.{HasEarlierFaultOutcome, HasNoContent, HasNoEarlier, HasNoInput, HasNothingKnown, HasProblemOutcome, IsContent, IsFileOf, IsInputOf, IsKnownOf, IsModelOf, IsReadingOf}
use Rattle.cgm_cli.specs.Outcome.{HasOwnOutcome}
use Rattle.cgm_cli.specs.SolveOutcome.{HasSolveOutcome, IsCertificateCut, IsCertified, Wanted, wanted}

-- ---- what a later call finds

rose_from : (before mid now : ℕ) → before ≤ mid → Rose mid now → Rose before now
rose_from before mid now under rose = omega (arith, clamps, under, rose)

cant_read : (old mid new : ShelfState) (name : List ℕ) → OnlyReads old mid → CantRead mid new name → CantRead old new name
cant_read old mid new name only (inl missing) = inl (subst (λ told. IsMissing told name) only.files missing)
cant_read old mid new name only (inr rose) = inr (rose_from old.read_faults mid.read_faults new.read_faults only.later rose)

no_content : (name : List ℕ) (limit : Option ℕ) (old mid new : ShelfState) (sink said : SinkState) (status : Status) → OnlyReads old mid → HasNoContent name limit (outside mid sink) (outside new said) status → HasNoContent name limit (outside old sink) (outside new said) status
no_content name limit old mid new sink said statuses.Read only gone = (cant_read old mid new name only gone.0, gone.1)
no_content name limit old mid new sink said statuses.Limit only gone =
    (subst (λ told. IsSomeAnd limit (λ most. WhereTold told name (λ file. most < length file))) only.files gone.0, gone.1)
no_content name limit old mid new sink said statuses.Memory only gone = gone
no_content name limit old mid new sink said status only gone = absurd gone

no_earlier : (name : List ℕ) (old mid new : ShelfState) (sink said : SinkState) (status : Status) → OnlyReads old mid → HasNoEarlier name (outside mid sink) (outside new said) status → HasNoEarlier name (outside old sink) (outside new said) status
no_earlier name old mid new sink said status only (inl gone) =
    inl (no_content name (Some most_bytes) old mid new sink said status only gone)
no_earlier name old mid new sink said status only (inr file) =
    inr (subst (λ told. IsFileOf told name (λ text. HasEarlierFaultOutcome text sink said status)) only.files file)

nothing_known : (file : Option (List ℕ)) (old mid new : ShelfState) (sink said : SinkState) (status : Status) → OnlyReads old mid → HasNothingKnown file (outside mid sink) (outside new said) status → HasNothingKnown file (outside old sink) (outside new said) status
nothing_known None old mid new sink said status only gone = gone
nothing_known (Some name) old mid new sink said status only gone = no_earlier name old mid new sink said status only gone

-- a reading is one of its model
pub model_of_reading : (told : Option Files) (name : List ℕ) (m : Lists) (lines : List ℕ) → IsReadingOf told name m lines → IsModelOf told name m
model_of_reading told name m lines file =
    let reading = file.1.1 in
    (file.0, (file.1.0, (reading.said, (reading.has, reading.model_is))))

-- ---- the input

-- a model was read without a word to the sink, and then no earlier realization
pub no_input : (name : List ℕ) (file : Option (List ℕ)) (old mid new : ShelfState) (sink quiet said : SinkState) (m : Lists) (lines : List ℕ) (status : Status) → OnlyReads old mid → quiet ≡ sink → IsReadingOf old.files name m lines → HasNothingKnown file (outside mid quiet) (outside new said) status → HasNoInput name file (outside old sink) (outside new said) status
no_input name file old mid new sink quiet said m lines status only same reading gone =
    let quietly : HasNothingKnown file (outside mid sink) (outside new said) status = subst (λ s. HasNothingKnown file (outside mid s) (outside new said) status) same gone in
    inr (
      (m, model_of_reading old.files name m lines reading),
      nothing_known file old mid new sink said status only quietly,
    )

-- a model was read, and then what is known of an earlier realization
pub input_of : (name : List ℕ) (file : Option (List ℕ)) (old mid : ShelfState) (m : Lists) (lines : List ℕ) (pairs : List Pair) → OnlyReads old mid → IsReadingOf old.files name m lines → IsKnownOf mid.files file pairs → IsInputOf old.files name file m lines pairs
input_of name file old mid m lines pairs only reading known =
    record { model = reading; known = subst (λ told. IsKnownOf told file pairs) only.files known }

-- ---- what comes of an input, told from the world before it was read

checked_from : (cert : List ℕ) (old mid new : ShelfState) (sink said : SinkState) (m : Lists) (pairs : List Pair) (status : Status) → OnlyReads old mid → HasCheckOutcome cert (outside mid sink) (outside new said) m pairs status → HasCheckOutcome cert (outside old sink) (outside new said) m pairs status
checked_from cert old mid new sink said m pairs status only (inl gone) =
    inl (no_content cert None old mid new sink said status only gone)
checked_from cert old mid new sink said m pairs status only (inr found) =
    inr (found.0, (subst (λ told. IsContent told cert None found.0) only.files found.1.0, found.1.1))

pub untouched_from : (old mid new : ShelfState) → OnlyReads old mid → IsUntouched mid new → IsUntouched old new
untouched_from old mid new only kept = record { same = kept.same ∙ only.files; counted = kept.counted ∙ only.writes }

certified_from : (cert : Option (List ℕ)) (entries : List Entry) (old mid new : ShelfState) → OnlyReads old mid → IsCertified cert entries mid new → IsCertified cert entries old new
certified_from None entries old mid new only certified = untouched_from old mid new only certified
certified_from (Some name) entries old mid new only certified =
    (certified.0, (certified.1.0, subst (λ told. Leaves told new.files name certified.0) only.files certified.1.1))

cut_from : (cert : Option (List ℕ)) (entries : List Entry) (old mid new : ShelfState) → OnlyReads old mid → IsCertificateCut cert entries mid new → IsCertificateCut cert entries old new
cut_from None entries old mid new only cut = cut
cut_from (Some name) entries old mid new only cut = (
  cut.0,
  (
    cut.1.0,
    subst (λ told. LeavesPart told new.files name cut.0) only.files cut.1.1,
    subst (λ count. Rose count new.write_faults) only.writes cut.1.2,
  ),
)

lost_from : (cert : Option (List ℕ)) (entries : List Entry) (old mid new : ShelfState) (A B : Type 0) → OnlyReads old mid → (IsCertificateCut cert entries mid new × A) ⊎ (IsCertified cert entries mid new × B) → (IsCertificateCut cert entries old new × A) ⊎ (IsCertified cert entries old new × B)
lost_from cert entries old mid new A B only (inl cut) = inl (cut_from cert entries old mid new only cut.0, cut.1)
lost_from cert entries old mid new A B only (inr whole) = inr (certified_from cert entries old mid new only whole.0, whole.1)

solved_from : (want : Wanted) (old mid new : ShelfState) (sink said : SinkState) (work done : List TrailState) (m : Lists) (pairs : List Pair) (status : Status) → OnlyReads old mid → HasSolveOutcome want (world mid sink work) (world new said done) m pairs status → HasSolveOutcome want (world old sink work) (world new said done) m pairs status
solved_from want old mid new sink said work done m pairs statuses.Done only own = record {
  found = own.found;
  entries = own.entries;
  shown = own.shown;
  certified = certified_from want.cert own.entries old mid new only own.certified;
  printed = own.printed;
}
solved_from want old mid new sink said work done m pairs statuses.Unrealizable only own = record {
  entries = own.entries;
  shown = own.shown;
  certified = certified_from want.cert own.entries old mid new only own.certified;
  printed = own.printed;
}
solved_from want old mid new sink said work done m pairs statuses.Open only own = record {
  best = own.best;
  spent = own.spent;
  entries = own.entries;
  solved = own.solved;
  certified = certified_from want.cert own.entries old mid new only own.certified;
  printed = own.printed;
}
solved_from want old mid new sink said work done m pairs statuses.Write only own = record {
  answer = own.answer;
  solved = own.solved;
  lost = lost_from want.cert (entries_of own.answer) old mid new (IsTold write_fault sink said) (IsCutOff (report_of m own.answer) sink said) only own.lost;
}
solved_from want old mid new sink said work done m pairs statuses.Memory only own = own
solved_from want old mid new sink said work done m pairs status only own = absurd own

problem_from : (P Q : Lists → List Pair → Status → Type 0) (sink said : SinkState) (m : Lists) (lines : List ℕ) (pairs : List Pair) (status : Status) → (P m pairs status → Q m pairs status) → HasProblemOutcome P sink said m lines pairs status → HasProblemOutcome Q sink said m lines pairs status
problem_from P Q sink said m lines pairs status next (inl none) = inl none
problem_from P Q sink said m lines pairs status next (inr some) = inr (some.0, next some.1)

-- a command's own outcome, from the world before its input was read
pub own_from : (command : Command) (old mid new : ShelfState) (sink said : SinkState) (work done : List TrailState) (m : Lists) (lines : List ℕ) (pairs : List Pair) (status : Status) → OnlyReads old mid → HasOwnOutcome command (world mid sink work) (world new said done) m lines pairs status → HasOwnOutcome command (world old sink work) (world new said done) m lines pairs status
own_from (solve name file cert workers plan) old mid new sink said work done m lines pairs status only own =
    problem_from (HasSolveOutcome (wanted workers plan cert) (world mid sink work) (world new said done)) (HasSolveOutcome (wanted workers plan cert) (world old sink work) (world new said done)) sink said m lines pairs status
    (λ solved. solved_from (wanted workers plan cert) old mid new sink said work done m pairs status only solved) own
own_from (check name cert file) old mid new sink said work done m lines pairs status only own =
    problem_from (HasCheckOutcome cert (outside mid sink) (outside new said)) (HasCheckOutcome cert (outside old sink) (outside new said)) sink said m lines pairs status
    (λ checked. checked_from cert old mid new sink said m pairs status only checked) own
own_from (encode name file) old mid new sink said work done m lines pairs status only own = own
own_from (show name) old mid new sink said work done m lines pairs status only own = own
