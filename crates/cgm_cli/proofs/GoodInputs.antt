-- Over files that have a model with its problem and an earlier realization, a command begins its own work, unless a read fails or memory is wanted.
use Rattle.std.proofs.Common.{◌≡◌, ℕ, ◌+◌, ◌<◌, ◌≤◌, ◌⊎◌, List, [], ◌∷◌, length, IsSomeAnd, Option, Some, None, refl, sym, ◌∙◌, subst, inl, inr, arith}
use Rattle.cgm_base.specs.declared.status.Status.{Status}
use Rattle.cgm_base.specs.declared.status.Status.TheVariants as statuses
use Rattle.cgm_base.specs.Words.{most_bytes}
use Rattle.cgm_shelf.specs.Faults.{Rose}
use Rattle.cgm_shelf.specs.Shelf.{CantRead, Files, IsMissing, ShelfState, WhereTold}
use Rattle.cgm_shelf.specs.Sink.{SinkState}
use Rattle.cgm_model.specs.declared.lists.Lists.{Lists}
use Rattle.cgm_base.specs.Place.{EachFrom, FirstFailsFrom}
use Rattle.cgm_lex.specs.declared.stops.LineFault.TheVariants as line_faults
use Rattle.cgm_text.specs.Text.{IsTextOf}
use Rattle.cgm_text.proofs.Outcomes as models
use Rattle.cgm_evolve.specs.Pairs.{Pair}
use Rattle.cgm_evolve.specs.Text.{IsTextOf as IsEarlierTextOf}
use Rattle.cgm_evolve.proofs.Outcomes as earliers
use Rattle.cgm_enc_formula.specs.Measures.{IsWithinMeasure}
use Rattle.cgm_encode.specs.Encoding.{IsEncodable, number_box}
use Rattle.cgm_cli.specs.Effects.{Outside}
use Rattle.cgm_cli.specs.Inputs.{HasEarlierFaultOutcome, HasFaultOutcome, HasInputOutcome, HasNoInput, HasNoModel, HasNoProblem, HasNoText, HasNothingKnown, HasProblemOutcome, IsFileOf, IsInputOf, IsKnownOf, IsModelOf}
use Rattle.cgm_cli.specs.Laws.{HasEarlier, HasModel, IsGoodInput}
use Rattle.cgm_cli.proofs.Shelves.{model_of_reading}

-- a read failed, or memory was wanted
abbrev pub Lacks : ShelfState → ShelfState → Status → Type 0
Lacks old new status =
    ((status ≡ statuses.Read) × Rose old.read_faults new.read_faults) ⊎ (status ≡ statuses.Memory)

-- the named file has a text of which P holds, within the limit on bytes
abbrev pub HasFile : Files → List ℕ → (List ℕ → Type 0) → Type 0
HasFile files name P = IsSomeAnd (files name) (λ text. P text × (length text ≤ most_bytes))

-- ---- files

pub both : {X : Type 0} (o : Option X) (P Q : X → Type 0) → IsSomeAnd o P → IsSomeAnd o Q → (x : X) × (P x × Q x)
both None P Q p q = absurd p
both (Some x) P Q p q = (x, (p, q))

pub where_told : (told : Option Files) (files : Files) (name : List ℕ) (P : List ℕ → Type 0) → told ≡ Some files → WhereTold told name P → IsSomeAnd (files name) P
where_told told files name P is holds = subst (λ t. WhereTold t name P) is holds

-- a file that is there is missed only where a read fails
pub read_failed : (old new : ShelfState) (files : Files) (name : List ℕ) (P : List ℕ → Type 0) → old.files ≡ Some files → IsSomeAnd (files name) P → CantRead old new name → Rose old.read_faults new.read_faults
read_failed old new files name P is there (inl missing) =
    let gone : files name ≡ None = subst (λ t. IsMissing t name) is missing in
    absurd (subst (λ o. IsSomeAnd o P) gone there)
read_failed old new files name P is there (inr rose) = rose

no_text : (found left : Outside) (files : Files) (name : List ℕ) (P : List ℕ → Type 0) (status : Status) → found.shelf.files ≡ Some files → HasFile files name P → HasNoText name found left status → Lacks found.shelf left.shelf status
no_text found left files name P statuses.Limit told has gone =
    let both_hold = both (files name) (λ text. P text × (length text ≤ most_bytes)) (λ file. most_bytes < length file) has (where_told found.shelf.files files name (λ file. most_bytes < length file) told gone.0) in
    let short : length both_hold.0 ≤ most_bytes = both_hold.1.0.1 in
    let long : most_bytes < length both_hold.0 = both_hold.1.1 in
    absurd (omega (arith, short, long))
no_text found left files name P statuses.Read told has gone =
    inl (refl, read_failed found.shelf left.shelf files name (λ text. P text × (length text ≤ most_bytes)) told has gone.0)
no_text found left files name P statuses.Memory told has gone = inr refl
no_text found left files name P status told has gone = absurd gone

-- what is read of a file is what is there
shared : (told : Option Files) (files : Files) (name : List ℕ) (P Q : List ℕ → Type 0) → told ≡ Some files → HasFile files name P → IsFileOf told name Q → (text : List ℕ) × (P text × Q text)
shared told files name P Q is has file =
    let both_hold = both (files name) (λ text. P text × (length text ≤ most_bytes)) (λ text. file.0 ≡ text) has (where_told told files name (λ text. file.0 ≡ text) is file.1.0.told) in
    (file.0, (subst P (sym both_hold.1.1) both_hold.1.0.0, file.1.1))

-- a text that is there has no fault
no_file : (found left : Outside) (files : Files) (name : List ℕ) (P F : List ℕ → Type 0) (status : Status) → ((text : List ℕ) → P text → F text → status ≡ statuses.Memory) → found.shelf.files ≡ Some files → HasFile files name P → HasNoText name found left status ⊎ IsFileOf found.shelf.files name F → Lacks found.shelf left.shelf status
no_file found left files name P F status sound told has (inl gone) = no_text found left files name P status told has gone
no_file found left files name P F status sound told has (inr file) =
    let text = shared found.shelf.files files name P F told has file in
    inr (sound text.0 text.1.0 text.1.1)

-- ---- the model

no_fault : (m : Lists) (old new : SinkState) (status : Status) (text : List ℕ) → IsTextOf text m → HasFaultOutcome text old new status → status ≡ statuses.Memory
no_fault m old new statuses.Text text is fault =
    absurd (models.never_both text m fault.line (line_faults.Bad fault.kind) is fault.fault)
no_fault m old new statuses.Limit text is fault =
    absurd (models.never_both text m fault.limit.line (line_faults.Limit fault.limit.which) is fault.fault)
no_fault m old new statuses.Memory text is fault = refl
no_fault m old new status text is fault = absurd fault

no_model : (found left : Outside) (files : Files) (name : List ℕ) (m : Lists) (status : Status) → found.shelf.files ≡ Some files → HasModel files name m → HasNoModel name found left status → Lacks found.shelf left.shelf status
no_model found left files name m status told has gone =
    no_file found left files name (λ text. IsTextOf text m) (λ text. HasFaultOutcome text found.sink left.sink status) status (no_fault m found.sink left.sink status) told has gone

same_model : (told : Option Files) (files : Files) (name : List ℕ) (m read : Lists) → told ≡ Some files → HasModel files name m → IsModelOf told name read → read ≡ m
same_model told files name m read is has model =
    let text = shared told files name (λ text. IsTextOf text m) (λ text. IsTextOf text read) is has model in
    models.one_model text.0 read m text.1.1 text.1.0

-- ---- the earlier realization

no_earlier_fault : (earlier : List Pair) (old new : SinkState) (status : Status) (text : List ℕ) → IsEarlierTextOf text earlier → HasEarlierFaultOutcome text old new status → status ≡ statuses.Memory
no_earlier_fault earlier old new statuses.Earlier text is fault =
    absurd (earliers.never_both text earlier fault.line (line_faults.Bad fault.kind) is fault.fault)
no_earlier_fault earlier old new statuses.Limit text is fault =
    absurd (earliers.never_both text earlier fault.limit.line (line_faults.Limit fault.limit.which) is fault.fault)
no_earlier_fault earlier old new statuses.Memory text is fault = refl
no_earlier_fault earlier old new status text is fault = absurd fault

nothing_known : (found left : Outside) (files : Files) (file : Option (List ℕ)) (earlier : List Pair) (status : Status) → found.shelf.files ≡ Some files → HasEarlier files file earlier → HasNothingKnown file found left status → Lacks found.shelf left.shelf status
nothing_known found left files None earlier status told has gone = absurd gone
nothing_known found left files (Some name) earlier status told has gone =
    no_file found left files name (λ text. IsEarlierTextOf text earlier) (λ text. HasEarlierFaultOutcome text found.sink left.sink status) status (no_earlier_fault earlier found.sink left.sink status) told has gone

same_known : (told : Option Files) (files : Files) (file : Option (List ℕ)) (earlier read : List Pair) → told ≡ Some files → HasEarlier files file earlier → IsKnownOf told file read → read ≡ earlier
same_known told files None earlier read is has known = known ∙ sym has
same_known told files (Some name) earlier read is has known =
    let text = shared told files name (λ text. IsEarlierTextOf text earlier) (λ text. IsEarlierTextOf text read) is has known in
    earliers.one_list text.0 read earlier text.1.1 text.1.0

-- ---- the problem

pub holds_each : {X : Type 0} (place : ℕ) (P : ℕ → X → Type 0) (xs : List X) (failing : ℕ) → EachFrom place P xs → FirstFailsFrom place P xs failing → ⊥
holds_each place P [] failing each fails = fails
holds_each place P (x ∷ xs) failing each (inl here) = here.1 each.0
holds_each place P (x ∷ xs) failing each (inr later) = holds_each (place + 1) P xs failing each.1 later.1

no_problem : (m : Lists) (lines : List ℕ) (old new : SinkState) (status : Status) → IsEncodable m → HasNoProblem m lines old new status → status ≡ statuses.Memory
no_problem m lines old new statuses.Limit encodable none =
    absurd (holds_each 0 (IsWithinMeasure m (number_box m)) m.rules none.rule encodable none.first)
no_problem m lines old new statuses.Memory encodable none = refl
no_problem m lines old new status encodable none = absurd none

-- ---- outcomes

-- of a command on the model's file alone
pub of_model : (P : Lists → Status → Type 0) (found left : Outside) (files : Files) (name : List ℕ) (m : Lists) (status : Status) → found.shelf.files ≡ Some files → HasModel files name m → HasInputOutcome (λ read lines earlier ended. P read ended) name None found left status → Lacks found.shelf left.shelf status ⊎ P m status
of_model P found left files name m status told has (inl (inl gone)) = inl (no_model found left files name m status told has gone)
of_model P found left files name m status told has (inl (inr gone)) = absurd gone.1
of_model P found left files name m status told has (inr read) =
    let model = model_of_reading found.shelf.files name read.0 read.1 read.3.0.model in
    inr (subst (λ x. P x status) (same_model found.shelf.files files name m read.0 told has model) read.3.1)

no_input : (found left : Outside) (name : List ℕ) (file : Option (List ℕ)) (m : Lists) (earlier : List Pair) (status : Status) → IsGoodInput found.shelf name file m earlier → HasNoInput name file found left status → Lacks found.shelf left.shelf status
no_input found left name file m earlier status good (inl gone) =
    no_model found left good.files name m status good.told good.model gone
no_input found left name file m earlier status good (inr gone) =
    nothing_known found left good.files file earlier status good.told good.known gone.1

same_input : (shelf : ShelfState) (name : List ℕ) (file : Option (List ℕ)) (m read : Lists) (lines : List ℕ) (earlier known : List Pair) → IsGoodInput shelf name file m earlier → IsInputOf shelf.files name file read lines known → (read ≡ m) × (known ≡ earlier)
same_input shelf name file m read lines earlier known good is = (
  same_model shelf.files good.files name m read good.told good.model (model_of_reading shelf.files name read lines is.model),
  same_known shelf.files good.files file earlier known good.told good.known is.known,
)

of_problem : (P : Lists → List Pair → Status → Type 0) (found left : Outside) (m : Lists) (lines : List ℕ) (earlier : List Pair) (status : Status) → IsEncodable m → HasProblemOutcome P found.sink left.sink m lines earlier status → Lacks found.shelf left.shelf status ⊎ P m earlier status
of_problem P found left m lines earlier status encodable (inl none) =
    inl (inr (no_problem m lines found.sink left.sink status encodable none))
of_problem P found left m lines earlier status encodable (inr is) = inr is.1

-- of a command that makes the problem of its files
pub of_input : (P : Lists → List Pair → Status → Type 0) (found left : Outside) (name : List ℕ) (file : Option (List ℕ)) (m : Lists) (earlier : List Pair) (status : Status) → IsGoodInput found.shelf name file m earlier → HasInputOutcome (HasProblemOutcome P found.sink left.sink) name file found left status → Lacks found.shelf left.shelf status ⊎ P m earlier status
of_input P found left name file m earlier status good (inl gone) =
    inl (no_input found left name file m earlier status good gone)
of_input P found left name file m earlier status good (inr read) =
    let lines = read.1 in
    let same = same_input found.shelf name file m read.0 lines earlier read.2 good read.3.0 in
    let with_model : HasProblemOutcome P found.sink left.sink m lines read.2 status = subst (λ x. HasProblemOutcome P found.sink left.sink x lines read.2 status) same.0 read.3.1 in
    of_problem P found left m lines earlier status good.encodable (subst (λ e. HasProblemOutcome P found.sink left.sink m lines e status) same.1 with_model)
