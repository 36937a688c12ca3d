-- The certificate that `solve` wrote is accepted by a later `check`, which gives the same answer.
use Rattle.std.proofs.Common.{◌≡◌, ℕ, zero, suc, ◌≤◌, ◌⊎◌, List, [], ◌∷◌, length, slice_get, take, ℤ, IsSome, IsSomeAnd, Option, Some, None, is_some, refl, sym, ap, ap₂, ◌∙◌, subst, inl, inr, ⊎_elim, arith}
use Rattle.cgm_base.specs.declared.status.Status.{Status}
use Rattle.cgm_base.specs.declared.status.Status.TheVariants as statuses
use Rattle.cgm_base.specs.Words.{most_bytes}
use Rattle.cgm_shelf.specs.Shelf.{Files, Leaves, ShelfState}
use Rattle.cgm_shelf.specs.Sink.{SinkState}
use Rattle.cgm_formula.specs.declared.assignment.Assignment.{Assignment}
use Rattle.cgm_model.specs.declared.lists.Lists.{Lists}
use Rattle.cgm_text.specs.Text.{IsTextOf as IsModelTextOf}
use Rattle.cgm_evolve.specs.Pairs.{Pair}
use Rattle.cgm_evolve.specs.Text.{IsTextOf as IsEarlierTextOf}
use Rattle.cgm_obj.specs.Vector.{vector_of}
use Rattle.cgm_atom.specs.declared.entries.BadStep.{BadStep}
use Rattle.cgm_atom.specs.declared.entries.Entry.{Entry}
use Rattle.cgm_atom.specs.Acceptance.{IsAccepted, IsAcceptedAfter, first_fault}
use Rattle.cgm_atom.specs.Instance.{Instance}
use Rattle.cgm_atom.specs.LogState.{LogState, empty_state, last_best, state_after, state_of, state_with}
use Rattle.cgm_cert.specs.Fault.{IsTextOf}
use Rattle.cgm_cert.proofs.Once.{entries_or_fault, one_list}
use Rattle.cgm_check.specs.Verdicts.{IsRefusedAt}
use Rattle.cgm_encode.specs.declared.answer.Found.{Found}
use Rattle.cgm_encode.specs.Decoding.{IsDecodedFound}
use Rattle.cgm_encode.specs.Encoding.{IsEncodable}
use Rattle.cgm_encode.specs.Problem.{problem_of}
use Rattle.cgm_solve.specs.Answers.{IsDecodedBest, LeavesOpen, ShowsRealized, ShowsUnrealizable}
use Rattle.cgm_report.specs.Answers.{exhausted, left_open}
use Rattle.cgm_report.specs.Report.{realized, unrealizable}
use Rattle.cgm_cli.specs.CheckOutcome.{HasCertificateOutcome, HasCheckOutcome, HasEntriesOutcome, HasNoEntries}
use Rattle.cgm_cli.specs.Effects.{IsPrinted, Outside, outside_of}
use Rattle.cgm_cli.specs.Inputs.{HasEarlierFaultOutcome, HasFaultOutcome, HasInputOutcome, HasNoModel, HasNoProblem, HasNoText, HasNothingKnown, HasProblemOutcome, IsFileOf, IsInputOf, IsKnownOf}
use Rattle.cgm_cli.specs.Laws.{Agrees, CertificatesAreAccepted, HasEarlier, IsGoodInput, IsLater, IsOneOf, IsSameEarlier, RunNames, PrintSame, PrintSameBest, printed_between}
use Rattle.cgm_cli.specs.SolveOutcome.{HasSolveOutcome, IsCertified, wanted}
use Rattle.cgm_cli.proofs.Completing.{no_bytes}
use Rattle.cgm_cli.proofs.GoodInputs.{HasFile, Lacks, both, of_input, where_told}
use Rattle.cgm_cli.proofs.Shelves.{model_of_reading}

-- ---- the same best is found again

abbrev found_with : Assignment → List ℤ → Found
found_with assignment vector = record { assignment = assignment; vector = vector }

same_decoded : (m : Lists) (pairs : List Pair) (values : List ℤ) (f g : Found) → IsDecodedFound m pairs values f → IsDecodedFound m pairs values g → f ≡ g
same_decoded m pairs values f g one other =
    let assignment : f.assignment ≡ g.assignment = one.assignment ∙ sym other.assignment in
    let vector : f.vector ≡ g.vector = one.vector ∙ (ap (vector_of m pairs) assignment ∙ sym other.vector) in
    ap₂ found_with assignment vector

same_found : (m : Lists) (pairs : List Pair) (best : Option (List ℤ)) (f g : Found) → IsDecodedBest m pairs best (Some f) → IsDecodedBest m pairs best (Some g) → f ≡ g
same_found m pairs best f g one other =
    let values = both best (λ values. IsDecodedFound m pairs values f) (λ values. IsDecodedFound m pairs values g) one other in
    same_decoded m pairs values.0 f g values.1.0 values.1.1

-- a best that is none decodes to nothing
none_decoded : (m : Lists) (pairs : List Pair) (best : Option (List ℤ)) (f : Found) → best ≡ None → IsDecodedBest m pairs best (Some f) → ⊥
none_decoded m pairs best f none reading = subst (λ b. IsDecodedBest m pairs b (Some f)) none reading

same_best : (m : Lists) (pairs : List Pair) (best : Option (List ℤ)) (one other : Option Found) → IsDecodedBest m pairs best one → IsDecodedBest m pairs best other → one ≡ other
same_best m pairs best None None one other = refl
same_best m pairs best None (Some g) one other = absurd (none_decoded m pairs best g one other)
same_best m pairs best (Some f) None one other = absurd (none_decoded m pairs best f other one)
same_best m pairs best (Some f) (Some g) one other = ap Some (same_found m pairs best f g one other)

-- ---- accepted entries aren't refused

after_refused : (p : Instance) (s : LogState) (entries : List Entry) (i : ℕ) (why : BadStep) → IsAcceptedAfter p s entries → IsSomeAnd (slice_get entries i) (λ e. first_fault p (state_after s (take i entries)) e ≡ Some why) → ⊥
after_refused p s [] i why accepted refused = refused
after_refused p s (e ∷ entries) zero why accepted refused =
    let none : first_fault p s e ≡ None = accepted.0 in
    let some : first_fault p s e ≡ Some why = refused in
    let clash : None ≡ Some why = sym none ∙ some in
    absurd (cc)
after_refused p s (e ∷ entries) (suc i) why accepted refused =
    after_refused p (state_with s e) entries i why accepted.1 refused

pub not_refused : (p : Instance) (entries : List Entry) (step : ℕ) (why : BadStep) → IsAccepted p entries → IsRefusedAt p entries step why → ⊥
unfolding IsAccepted state_of
not_refused p entries zero why accepted refused = refused
not_refused p entries (suc i) why accepted refused = after_refused p empty_state entries i why accepted refused.1

-- ---- what `check` answers for entries that show an answer

abbrev among : Status → Type 0
among answer = IsOneOf answer (statuses.Read ∷ statuses.Write ∷ statuses.Memory ∷ [])

realized_again : (m : Lists) (earlier : List Pair) (entries : List Entry) (found : Found) (P : List ℕ → Type 0) (old new : SinkState) (answer : Status) → ShowsRealized m earlier entries found → P (realized m earlier found.assignment) → HasEntriesOutcome m earlier entries old new answer → among answer ⊎ ((answer ≡ statuses.Done) × PrintSame P (λ bytes. IsPrinted bytes old new))
realized_again m earlier entries found P old new statuses.Done shown printed outcome =
    let same = same_found m earlier (last_best (state_of entries)) outcome.found found outcome.shown.best shown.best in
    inr (refl, (realized m earlier found.assignment, (printed, subst (λ f. IsPrinted (realized m earlier f.assignment) old new) same outcome.printed)))
realized_again m earlier entries found P old new statuses.Unrealizable shown printed outcome =
    absurd (none_decoded m earlier (last_best (state_of entries)) found outcome.0.no_best shown.best)
realized_again m earlier entries found P old new statuses.Open shown printed outcome =
    absurd (outcome.open_with.not_closed shown.closed)
realized_again m earlier entries found P old new statuses.Certificate shown printed outcome =
    absurd (not_refused (problem_of m earlier) entries outcome.step outcome.why shown.accepted outcome.refused)
realized_again m earlier entries found P old new statuses.Write shown printed outcome = inl (1, omega arith, refl)
realized_again m earlier entries found P old new statuses.Memory shown printed outcome = inl (2, omega arith, refl)
realized_again m earlier entries found P old new answer shown printed outcome = absurd outcome

unrealizable_again : (m : Lists) (earlier : List Pair) (entries : List Entry) (P : List ℕ → Type 0) (old new : SinkState) (answer : Status) → ShowsUnrealizable m earlier entries → P unrealizable → HasEntriesOutcome m earlier entries old new answer → among answer ⊎ ((answer ≡ statuses.Unrealizable) × PrintSame P (λ bytes. IsPrinted bytes old new))
unrealizable_again m earlier entries P old new statuses.Done shown printed outcome =
    absurd (none_decoded m earlier (last_best (state_of entries)) outcome.found shown.no_best outcome.shown.best)
unrealizable_again m earlier entries P old new statuses.Unrealizable shown printed outcome =
    inr (refl, (unrealizable, (printed, outcome.1)))
unrealizable_again m earlier entries P old new statuses.Open shown printed outcome =
    absurd (outcome.open_with.not_closed shown.closed)
unrealizable_again m earlier entries P old new statuses.Certificate shown printed outcome =
    absurd (not_refused (problem_of m earlier) entries outcome.step outcome.why shown.accepted outcome.refused)
unrealizable_again m earlier entries P old new statuses.Write shown printed outcome = inl (1, omega arith, refl)
unrealizable_again m earlier entries P old new statuses.Memory shown printed outcome = inl (2, omega arith, refl)
unrealizable_again m earlier entries P old new answer shown printed outcome = absurd outcome

open_again : (m : Lists) (earlier : List Pair) (entries : List Entry) (best : Option Found) (spent : List ℕ) (P : List ℕ → Type 0) (old new : SinkState) (answer : Status) → LeavesOpen m earlier entries best → P (exhausted m best spent) → HasEntriesOutcome m earlier entries old new answer → among answer ⊎ ((answer ≡ statuses.Open) × PrintSameBest P (λ bytes. IsPrinted bytes old new))
open_again m earlier entries best spent P old new statuses.Done left printed outcome =
    absurd (left.not_closed outcome.shown.closed)
open_again m earlier entries best spent P old new statuses.Unrealizable left printed outcome =
    absurd (left.not_closed outcome.0.closed)
open_again m earlier entries best spent P old new statuses.Open left printed outcome =
    let same = same_best m earlier (last_best (state_of entries)) outcome.best best outcome.open_with.best_is left.best_is in
    inr (refl, (m, best, spent, (printed, subst (λ b. IsPrinted (left_open m b) old new) same outcome.printed)))
open_again m earlier entries best spent P old new statuses.Certificate left printed outcome =
    absurd (not_refused (problem_of m earlier) entries outcome.step outcome.why left.accepted outcome.refused)
open_again m earlier entries best spent P old new statuses.Write left printed outcome = inl (1, omega arith, refl)
open_again m earlier entries best spent P old new statuses.Memory left printed outcome = inl (2, omega arith, refl)
open_again m earlier entries best spent P old new answer left printed outcome = absurd outcome

-- ---- where `solve` answers, its files were read and have a problem

abbrev IsAnswer : Status → Type 0
IsAnswer statuses.Done = Unit {0}
IsAnswer statuses.Unrealizable = Unit {0}
IsAnswer statuses.Open = Unit {0}
IsAnswer status = ⊥

-- what is no outcome of an answer
no_answer : (P : Status → Type 0) (status : Status) → (P statuses.Done → ⊥) → (P statuses.Unrealizable → ⊥) → (P statuses.Open → ⊥) → IsAnswer status → P status → ⊥
no_answer P statuses.Done done none left answers is = done is
no_answer P statuses.Unrealizable done none left answers is = none is
no_answer P statuses.Open done none left answers is = left is
no_answer P status done none left answers is = answers

no_text : (name : List ℕ) (found left : Outside) (status : Status) → IsAnswer status → HasNoText name found left status → ⊥
no_text name found left status answers gone =
    no_answer (λ s. HasNoText name found left s) status (λ x. x) (λ x. x) (λ x. x) answers gone

no_model : (name : List ℕ) (found left : Outside) (status : Status) → IsAnswer status → HasNoModel name found left status → ⊥
no_model name found left status answers (inl gone) = no_text name found left status answers gone
no_model name found left status answers (inr file) =
    no_answer (λ s. HasFaultOutcome file.0 found.sink left.sink s) status (λ x. x) (λ x. x) (λ x. x) answers file.1.1

nothing_known : (file : Option (List ℕ)) (found left : Outside) (status : Status) → IsAnswer status → HasNothingKnown file found left status → ⊥
nothing_known None found left status answers gone = gone
nothing_known (Some name) found left status answers (inl gone) = no_text name found left status answers gone
nothing_known (Some name) found left status answers (inr file) =
    no_answer (λ s. HasEarlierFaultOutcome file.0 found.sink left.sink s) status (λ x. x) (λ x. x) (λ x. x) answers file.1.1

-- the files give a model that has a problem, and P holds of it
record IsAnswered (files : Option Files) (name : List ℕ) (file : Option (List ℕ)) (P : Lists → List Pair → Type 0) : Type 0 where
  m : Lists
  lines : List ℕ
  earlier : List Pair
  input : IsInputOf files name file m lines earlier
  encodable : IsEncodable m
  outcome : P m earlier

with_problem : (P : Lists → List Pair → Status → Type 0) (files : Option Files) (old new : SinkState) (name : List ℕ) (file : Option (List ℕ)) (m : Lists) (lines : List ℕ) (earlier : List Pair) (status : Status) → IsAnswer status → IsInputOf files name file m lines earlier → HasProblemOutcome P old new m lines earlier status → IsAnswered files name file (λ m earlier. P m earlier status)
with_problem P files old new name file m lines earlier status answers input (inl none) =
    absurd (no_answer (λ s. HasNoProblem m lines old new s) status (λ x. x) (λ x. x) (λ x. x) answers none)
with_problem P files old new name file m lines earlier status answers input (inr is) =
    record { m = m; lines = lines; earlier = earlier; input = input; encodable = is.0; outcome = is.1 }

answered : (P : Lists → List Pair → Status → Type 0) (found left : Outside) (name : List ℕ) (file : Option (List ℕ)) (status : Status) → IsAnswer status → HasInputOutcome (HasProblemOutcome P found.sink left.sink) name file found left status → IsAnswered found.shelf.files name file (λ m earlier. P m earlier status)
answered P found left name file status answers (inl (inl gone)) = absurd (no_model name found left status answers gone)
answered P found left name file status answers (inl (inr gone)) = absurd (nothing_known file found left status answers gone.1)
answered P found left name file status answers (inr read) =
    with_problem P found.shelf.files found.sink left.sink name file read.0 read.1 read.2 status answers read.3.0 read.3.1

-- ---- what a later `check` finds

read_as : (o : Option (List ℕ)) (P : List ℕ → Type 0) (text : List ℕ) → IsSomeAnd o (λ file. text ≡ file) → P text → IsSomeAnd o P
read_as None P text is holds = absurd is
read_as (Some file) P text is holds = subst P is holds

-- a file that was read has its text still, maybe under another name
kept_file : (told : Option Files) (before now : Files) (name again : List ℕ) (P : List ℕ → Type 0) → told ≡ Some before → now again ≡ before name → IsFileOf told name P → HasFile now again P
kept_file told before now name again P found same file =
    let here : IsSomeAnd (before name) (λ text. file.0 ≡ text) = where_told told before name (λ text. file.0 ≡ text) found file.1.0.told in
    subst (λ o. IsSomeAnd o (λ text. P text × (length text ≤ most_bytes))) (sym same)
    (read_as (before name) (λ text. P text × (length text ≤ most_bytes)) file.0 here (file.1.1, file.1.0.short))

kept_earlier : (told : Option Files) (before now : Files) (file again : Option (List ℕ)) (earlier : List Pair) → told ≡ Some before → IsSameEarlier before now file again → IsKnownOf told file earlier → HasEarlier now again earlier
kept_earlier told before now None None earlier found same known = known
kept_earlier told before now None (Some again) earlier found same known = absurd same
kept_earlier told before now (Some name) None earlier found same known = absurd same
kept_earlier told before now (Some name) (Some again) earlier found same known =
    kept_file told before now name again (λ text. IsEarlierTextOf text earlier) found same known

-- the input of `solve` is good still
good_still : (first second : RunNames) (old new later : ShelfState) (m : Lists) (lines : List ℕ) (earlier : List Pair) → IsLater first second old new later → IsInputOf old.files first.model first.earlier m lines earlier → IsEncodable m → IsGoodInput later second.model second.earlier m earlier
good_still first second old new later m lines earlier is input encodable = record {
  files = is.now;
  told = is.told;
  model = kept_file old.files is.before is.now first.model second.model (λ text. IsModelTextOf text m) is.found is.model_is (model_of_reading old.files first.model m lines input.model);
  known = kept_earlier old.files is.before is.now first.earlier second.earlier earlier is.found is.known input.known;
  encodable = encodable;
}

-- a file that was written holds what was written
written : (old : Option Files) (after : Files) (name bytes : List ℕ) → Leaves old (Some after) name bytes → after name ≡ Some bytes
written None after name bytes left = let clash : Some after ≡ None = left in absurd (cc)
written (Some before) after name bytes left = left.named

-- the certificate's text, in the file that is named for it
record IsWritten (now : Files) (cert : List ℕ) (entries : List Entry) : Type 0 where
  text : List ℕ
  here : now cert ≡ Some text
  text_is : IsTextOf text entries

certificate_written : (first second : RunNames) (old new later : ShelfState) (entries : List Entry) (is : IsLater first second old new later) → IsCertified (Some first.cert) entries old new → IsWritten is.now second.cert entries
certificate_written first second old new later entries is certified =
    let left : Leaves old.files (Some is.after) first.cert certified.0 = subst (λ after. Leaves old.files after first.cert certified.0) is.left certified.1.1 in
    record { text = certified.0; here = is.certificate ∙ written old.files is.after first.cert certified.0 left; text_is = certified.1.0 }

no_entries : (entries : List Entry) (text : List ℕ) (old new : SinkState) (status : Status) → IsTextOf text entries → HasNoEntries text old new status → status ≡ statuses.Memory
no_entries entries text old new statuses.Certificate is fault =
    absurd (entries_or_fault text entries fault.line fault.kind is fault.fault)
no_entries entries text old new statuses.Memory is fault = refl
no_entries entries text old new status is fault = absurd fault

-- of a text that is the certificate of these entries
of_text : (found left : Outside) (m : Lists) (earlier : List Pair) (entries : List Entry) (text : List ℕ) (answer : Status) → IsTextOf text entries → HasCertificateOutcome m earlier text found.sink left.sink answer → Lacks found.shelf left.shelf answer ⊎ HasEntriesOutcome m earlier entries found.sink left.sink answer
of_text found left m earlier entries text answer is (inl none) =
    inl (inr (no_entries entries text found.sink left.sink answer is none))
of_text found left m earlier entries text answer is (inr read) =
    inr (subst (λ e. HasEntriesOutcome m earlier e found.sink left.sink answer) (one_list text read.entries entries read.text_is is) read.outcome)

same_bytes : (o : Option (List ℕ)) (text read : List ℕ) → o ≡ Some text → IsSomeAnd o (λ file. read ≡ file) → read ≡ text
same_bytes o text read here is = subst (λ x. IsSomeAnd x (λ file. read ≡ file)) here is

of_check : (found left : Outside) (now : Files) (cert : List ℕ) (m : Lists) (earlier : List Pair) (entries : List Entry) (answer : Status) → found.shelf.files ≡ Some now → IsWritten now cert entries → HasCheckOutcome cert found left m earlier answer → Lacks found.shelf left.shelf answer ⊎ HasEntriesOutcome m earlier entries found.sink left.sink answer
of_check found left now cert m earlier entries answer told is (inl gone) =
    let there : IsSome (now cert) = ap is_some is.here in
    inl (no_bytes cert found left now answer told there gone)
of_check found left now cert m earlier entries answer told is (inr read) =
    let same = same_bytes (now cert) is.text read.0 is.here (where_told found.shelf.files now cert (λ file. read.0 ≡ file) told read.1.0.told) in
    of_text found left m earlier entries is.text answer is.text_is (subst (λ text. HasCertificateOutcome m earlier text found.sink left.sink answer) same read.1.1)

lacking : (old new : ShelfState) (answer : Status) → Lacks old new answer → among answer
lacking old new answer (inl failed) = subst among (sym failed.0) (0, omega arith, refl)
lacking old new answer (inr memory) = subst among (sym memory) (2, omega arith, refl)

entries_found : (found left : Outside) (now : Files) (cert : List ℕ) (m : Lists) (earlier : List Pair) (entries : List Entry) (answer : Status) → found.shelf.files ≡ Some now → IsWritten now cert entries → Lacks found.shelf left.shelf answer ⊎ HasCheckOutcome cert found left m earlier answer → Lacks found.shelf left.shelf answer ⊎ HasEntriesOutcome m earlier entries found.sink left.sink answer
entries_found found left now cert m earlier entries answer told is (inl lacks) = inl lacks
entries_found found left now cert m earlier entries answer told is (inr outcome) =
    of_check found left now cert m earlier entries answer told is outcome

-- what comes of the entries that were written, unless `check` lacks something before it has them
later_entries : (first second : RunNames) (old new : ShelfState) (later last : Outside) (m : Lists) (lines : List ℕ) (earlier : List Pair) (entries : List Entry) (answer : Status) → IsLater first second old new later.shelf → IsInputOf old.files first.model first.earlier m lines earlier → IsEncodable m → IsCertified (Some first.cert) entries old new → HasInputOutcome (HasProblemOutcome (HasCheckOutcome second.cert later last) later.sink last.sink) second.model second.earlier later last answer → among answer ⊎ HasEntriesOutcome m earlier entries later.sink last.sink answer
later_entries first second old new later last m lines earlier entries answer is input encodable certified outcome =
    let good = good_still first second old new later.shelf m lines earlier is input encodable in
    let here = certificate_written first second old new later.shelf entries is certified in
    ⊎_elim
    (λ lacks. inl (lacking later.shelf last.shelf answer lacks))
    (λ found. inr found)
    (entries_found later last is.now second.cert m earlier entries answer is.told here
    (of_input (HasCheckOutcome second.cert later last) later last second.model second.earlier m earlier answer good outcome))

-- ---- the law

-- an answer is given again, or `check` lacks something
given_again : {X : Type 0} (answer : Status) (A : Type 0) → (X → among answer ⊎ A) → among answer ⊎ X → among answer ⊎ A
given_again answer A gives (inl lacks) = inl lacks
given_again answer A gives (inr found) = gives found

pub certificates_are_accepted : CertificatesAreAccepted
certificates_are_accepted first second workers plan found left later last statuses.Done answer outcome is checked =
    let own = answered (HasSolveOutcome (wanted workers plan (Some first.cert)) found left) (outside_of found) (outside_of left) first.model first.earlier statuses.Done tt outcome in
    let printed = own.outcome in
    given_again answer (Agrees statuses.Done (printed_between found left) answer (printed_between later last))
    (realized_again own.m own.earlier printed.entries printed.found (printed_between found left) later.sink last.sink answer printed.shown printed.printed)
    (later_entries first second found.shelf left.shelf (outside_of later) (outside_of last) own.m own.lines own.earlier printed.entries answer is own.input own.encodable printed.certified checked)
certificates_are_accepted first second workers plan found left later last statuses.Unrealizable answer outcome is checked =
    let own = answered (HasSolveOutcome (wanted workers plan (Some first.cert)) found left) (outside_of found) (outside_of left) first.model first.earlier statuses.Unrealizable tt outcome in
    let printed = own.outcome in
    given_again answer (Agrees statuses.Unrealizable (printed_between found left) answer (printed_between later last))
    (unrealizable_again own.m own.earlier printed.entries (printed_between found left) later.sink last.sink answer printed.shown printed.printed)
    (later_entries first second found.shelf left.shelf (outside_of later) (outside_of last) own.m own.lines own.earlier printed.entries answer is own.input own.encodable printed.certified checked)
certificates_are_accepted first second workers plan found left later last statuses.Open answer outcome is checked =
    let own = answered (HasSolveOutcome (wanted workers plan (Some first.cert)) found left) (outside_of found) (outside_of left) first.model first.earlier statuses.Open tt outcome in
    let printed = own.outcome in
    given_again answer (Agrees statuses.Open (printed_between found left) answer (printed_between later last))
    (open_again own.m own.earlier printed.entries printed.best printed.spent (printed_between found left) later.sink last.sink answer printed.solved.0 printed.printed)
    (later_entries first second found.shelf left.shelf (outside_of later) (outside_of last) own.m own.lines own.earlier printed.entries answer is own.input own.encodable printed.certified checked)
certificates_are_accepted first second workers plan found left later last status answer outcome is checked = inr tt
