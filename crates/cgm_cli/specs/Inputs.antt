-- What the files of a command give: the model with its problem, and what is known of an earlier realization; or why there is none.
use Rattle.std.specs.Prelude.{◌≡◌, ℕ, ◌<◌, ◌≤◌, ◌⊎◌, List, [], length, slice_get, IfSome, IsSomeAnd, Option, None, Some}
use Rattle.cgm_base.specs.declared.fault.BadKind.{BadKind}
use Rattle.cgm_base.specs.declared.limit.Which.TheVariants as limits
use Rattle.cgm_base.specs.declared.limit.Limit.{Limit}
use Rattle.cgm_base.specs.declared.status.Status.{Status}
use Rattle.cgm_base.specs.declared.status.Status.TheVariants.{Text, Earlier, Limit as LimitPassed, Read, Memory}
use Rattle.cgm_base.specs.Words.{limit_number, most_bytes}
use Rattle.cgm_shelf.specs.Shelf.{CantRead, Files, WhereTold}
use Rattle.cgm_shelf.specs.Sink.{SinkState}
use Rattle.cgm_model.specs.declared.lists.Lists.{Lists}
use Rattle.cgm_base.specs.Place.{FirstFails}
use Rattle.cgm_lex.specs.declared.stops.LineFault.TheVariants as line_faults
use Rattle.cgm_text.specs.Text.{IsReading, IsTextOf, HasFault}
use Rattle.cgm_evolve.specs.Pairs.{Pair}
use Rattle.cgm_evolve.specs.Text.{IsTextOf as IsEarlierTextOf, HasFault as HasEarlierFault}
use Rattle.cgm_enc_formula.specs.Measures.{IsWithinMeasure}
use Rattle.cgm_encode.specs.Encoding.{IsEncodable, number_box}
use Rattle.cgm_cli.specs.Effects.{Outside, IsTold}
use Rattle.cgm_cli.specs.FaultLines.{text_fault, earlier_fault, limit_fault, read_fault, memory_fault}

-- ---- the outcome for bytes that give no model; a text has a model or one first fault, never both, as laws of cgm_text say

-- the text's first fault is of this kind, on this line, which is told
pub record IsTextFault (text : List ℕ) (old new : SinkState) : Type 0 where
  pub line : ℕ
  pub kind : BadKind
  pub fault : HasFault text line (line_faults.Bad kind)
  pub told : IsTold (text_fault line kind) old new

-- the text's first fault is this limit, on its line, which is told
pub record IsLimitFault (text : List ℕ) (old new : SinkState) : Type 0 where
  pub limit : Limit
  pub fault : HasFault text limit.line (line_faults.Limit limit.which)
  pub told : IsTold (limit_fault limit) old new

abbrev pub HasFaultOutcome : List ℕ → SinkState → SinkState → Status → Type 0
HasFaultOutcome text old new Text = IsTextFault text old new
HasFaultOutcome text old new LimitPassed = IsLimitFault text old new
HasFaultOutcome text old new Memory = IsTold memory_fault old new
HasFaultOutcome text old new status = ⊥

-- ---- the same for bytes that give no earlier realization

pub record IsEarlierFault (text : List ℕ) (old new : SinkState) : Type 0 where
  pub line : ℕ
  pub kind : BadKind
  pub fault : HasEarlierFault text line (line_faults.Bad kind)
  pub told : IsTold (earlier_fault line kind) old new

pub record IsEarlierLimitFault (text : List ℕ) (old new : SinkState) : Type 0 where
  pub limit : Limit
  pub fault : HasEarlierFault text limit.line (line_faults.Limit limit.which)
  pub told : IsTold (limit_fault limit) old new

abbrev pub HasEarlierFaultOutcome : List ℕ → SinkState → SinkState → Status → Type 0
HasEarlierFaultOutcome text old new Earlier = IsEarlierFault text old new
HasEarlierFaultOutcome text old new LimitPassed = IsEarlierLimitFault text old new
HasEarlierFaultOutcome text old new Memory = IsTold memory_fault old new
HasEarlierFaultOutcome text old new status = ⊥

-- ---- the outcome for a file name

-- the limit on the bytes of a text
abbrev pub text_limit : Limit
text_limit = record { which = limits.TextBytes; number = most_bytes; line = 0 }

-- the named file, where the shelf tells its files, has these bytes, and they are within the limit, if there is one
pub record IsContent (files : Option Files) (name : List ℕ) (limit : Option ℕ)
    (bytes : List ℕ) : Type 0 where
  pub told : WhereTold files name (λ file. bytes ≡ file)
  pub short : IfSome limit (λ most. length bytes ≤ most)

-- why the bytes of the named file aren't had: it passes the limit, or can't be read
abbrev pub HasNoContent : List ℕ → Option ℕ → Outside → Outside → Status → Type 0
HasNoContent name limit found left LimitPassed =
    IsSomeAnd limit (λ most. WhereTold found.shelf.files name (λ file. most < length file))
    × IsTold (limit_fault text_limit) found.sink left.sink
HasNoContent name limit found left Read =
    CantRead found.shelf left.shelf name × IsTold read_fault found.sink left.sink
HasNoContent name limit found left Memory = IsTold memory_fault found.sink left.sink
HasNoContent name limit found left status = ⊥

-- the bytes of the named file are within the limit on a text, and P holds of them
abbrev pub IsFileOf : Option Files → List ℕ → (List ℕ → Type 0) → Type 0
IsFileOf files name P = (text : List ℕ) × (IsContent files name (Some most_bytes) text × P text)

-- why there is no text in the named file
abbrev pub HasNoText : List ℕ → Outside → Outside → Status → Type 0
HasNoText name found left status = HasNoContent name (Some most_bytes) found left status

-- why there is no model in the named file: there is no text, or it has a fault
abbrev pub HasNoModel : List ℕ → Outside → Outside → Status → Type 0
HasNoModel name found left status =
    HasNoText name found left status
    ⊎ IsFileOf found.shelf.files name (λ text. HasFaultOutcome text found.sink left.sink status)

-- why there is no earlier realization in the named file
abbrev pub HasNoEarlier : List ℕ → Outside → Outside → Status → Type 0
HasNoEarlier name found left status =
    HasNoText name found left status
    ⊎ IsFileOf found.shelf.files name
    (λ text. HasEarlierFaultOutcome text found.sink left.sink status)

-- the named file has a text of this model
abbrev pub IsModelOf : Option Files → List ℕ → Lists → Type 0
IsModelOf files name m = IsFileOf files name (λ text. IsTextOf text m)

-- and its rules stand on these lines
abbrev pub IsReadingOf : Option Files → List ℕ → Lists → List ℕ → Type 0
IsReadingOf files name m rule_lines = IsFileOf files name (λ text. IsReading text m rule_lines)

-- the named file has a text of this earlier realization
abbrev pub IsEarlierOf : Option Files → List ℕ → List Pair → Type 0
IsEarlierOf files name earlier = IsFileOf files name (λ text. IsEarlierTextOf text earlier)

-- ---- the outcome for the file of a model and that of an earlier realization, which may be left out

-- what is known of an earlier realization; without a file nothing is known
abbrev pub IsKnownOf : Option Files → Option (List ℕ) → List Pair → Type 0
IsKnownOf files None earlier = earlier ≡ []
IsKnownOf files (Some name) earlier = IsEarlierOf files name earlier

-- why it isn't known
abbrev pub HasNothingKnown : Option (List ℕ) → Outside → Outside → Status → Type 0
HasNothingKnown None found left status = ⊥
HasNothingKnown (Some name) found left status = HasNoEarlier name found left status

-- the files give this model with these lines of its rules, and this earlier realization
pub record IsInputOf (files : Option Files) (name : List ℕ) (file : Option (List ℕ)) (m : Lists)
    (rule_lines : List ℕ) (earlier : List Pair) : Type 0 where
  pub model : IsReadingOf files name m rule_lines
  pub known : IsKnownOf files file earlier

-- why the files give nothing: there is no model, or there is one and no earlier realization
abbrev pub HasNoInput : List ℕ → Option (List ℕ) → Outside → Outside → Status → Type 0
HasNoInput name file found left status =
    HasNoModel name found left status
    ⊎ (((m : Lists) × IsModelOf found.shelf.files name m) × HasNothingKnown file found left status)

-- the outcome of a command on these files, where `HasModelOutcome` is its outcome for a model with the lines of its rules and an earlier realization
abbrev pub HasInputOutcome :
    (Lists → List ℕ → List Pair → Status → Type 0) → List ℕ → Option (List ℕ) → Outside → Outside
    → Status → Type 0
HasInputOutcome HasModelOutcome name file found left status =
    HasNoInput name file found left status
    ⊎ ((m : Lists) × (rule_lines : List ℕ) × (earlier : List Pair) × (
    IsInputOf found.shelf.files name file m rule_lines earlier
    × HasModelOutcome m rule_lines earlier status
    ))

-- ---- the row limit, which a model passes before it has a problem

abbrev pub row_limit : ℕ → Limit
row_limit line = record { which = limits.Row; number = limit_number limits.Row; line = line }

-- this is the first rule with a comparison whose measure passes the limit, and its line is told
pub record IsRowFault (m : Lists) (rule_lines : List ℕ) (old new : SinkState) : Type 0 where
  pub rule : ℕ
  pub line : ℕ
  pub first : FirstFails (IsWithinMeasure m (number_box m)) m.rules rule
  pub line_is : slice_get rule_lines rule ≡ Some line
  pub told : IsTold (limit_fault (row_limit line)) old new

-- why a model with these lines of its rules has no problem
abbrev pub HasNoProblem : Lists → List ℕ → SinkState → SinkState → Status → Type 0
HasNoProblem m rule_lines old new LimitPassed = IsRowFault m rule_lines old new
HasNoProblem m rule_lines old new Memory = IsTold memory_fault old new
HasNoProblem m rule_lines old new status = ⊥

-- the outcome of a command that makes the problem of a model, where `HasModelOutcome` is its outcome for a model in which no comparison passes the limit
abbrev pub HasProblemOutcome :
    (Lists → List Pair → Status → Type 0) → SinkState → SinkState → Lists → List ℕ → List Pair
    → Status → Type 0
HasProblemOutcome HasModelOutcome old new m rule_lines earlier status =
    HasNoProblem m rule_lines old new status ⊎ (IsEncodable m × HasModelOutcome m earlier status)
