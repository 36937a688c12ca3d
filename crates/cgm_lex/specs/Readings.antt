-- What the lines of a text come to, one after another: all that the text says, or its first fault.
use Rattle.std.specs.Prelude.{◌≡◌, ℕ, ◌+◌, List, [], ◌∷◌, Option, None, Some, Result, Ok, Err}
use Rattle.cgm_base.specs.declared.fault.BadKind.{BadKind}
use Rattle.cgm_base.specs.declared.fault.BadKind.TheVariants as kinds
use Rattle.cgm_base.specs.Words.{limit_number}
use Rattle.cgm_lex.specs.declared.stops.LineFault.{LineFault}
use Rattle.cgm_lex.specs.declared.stops.LineFault.TheVariants as line_faults
use Rattle.cgm_lex.specs.declared.stops.LineStop.{LineStop}
use Rattle.cgm_lex.specs.declared.stops.LineStop.TheVariants as line_stops
use Rattle.cgm_lex.specs.declared.stops.TextStop.{TextStop}
use Rattle.cgm_lex.specs.declared.stops.TextStop.TheVariants as stops
use Rattle.cgm_lex.specs.declared.token.Flaw.{Flaw}
use Rattle.cgm_lex.specs.declared.token.Flaw.TheVariants as flaws
use Rattle.cgm_lex.specs.declared.token.LexFault.{LexFault}
use Rattle.cgm_lex.specs.declared.token.LexFault.TheVariants as lex_faults
use Rattle.cgm_lex.specs.declared.token.LexStop.{LexStop}
use Rattle.cgm_lex.specs.declared.token.LexStop.TheVariants as lex_stops
use Rattle.cgm_lex.specs.Lexemes.{line_lexemes}
use Rattle.cgm_lex.specs.Lines.{lines}

-- ---- forms of texts

-- a form of texts: what is said before the first line, what a line with its number comes to after what was said so far, which is what is said then or what is wrong with the line, and what a text lacks that ends
pub record TextForm (S : Type 0) : Type 1 where
  pub begins : S
  pub comes : S → ℕ → List ℕ → Result S LineFault → Type 0
  pub lacks : S → Option LineFault

abbrev pub lack_of : {S : Type 0} → TextForm S → S → Option LineFault
lack_of form said = form.lacks said

-- nothing is said before a header, and a text that ends there lacks it
abbrev pub lacks_header : {A : Type 0} → Option A → Option LineFault
lacks_header None = Some (line_faults.Bad kinds.Header)
lacks_header (Some said) = None

-- ---- what a text comes to

-- all that it says, or its first faulty line, from 1, and what is wrong with it
pub data Outcome (S : Type 0) : Type 0 where
  gives : S → Outcome S
  fails : ℕ → LineFault → Outcome S

-- what a text lacks that ends is a fault of its first line
abbrev pub IsTextEnd : {S : Type 0} → Option LineFault → S → Outcome S → Type 0
IsTextEnd None said outcome = outcome ≡ gives said
IsTextEnd (Some fault) said outcome = outcome ≡ fails 1 fault

-- a faulty line ends the text; after another one it is as the lines after it say
abbrev pub IsTextOutcome : {S : Type 0} → Result S LineFault → ℕ → Outcome S → (S → Type 0) → Type 0
IsTextOutcome (Ok said) line outcome Later = Later said
IsTextOutcome (Err fault) line outcome Later = outcome ≡ fails line fault

-- what these lines come to after what was said so far; the first of them has the number `line`
abbrev pub Lead : {S : Type 0} → TextForm S → S → ℕ → List (List ℕ) → Outcome S → Type 0
Lead form said line [] outcome = IsTextEnd (form.lacks said) said outcome
Lead {S} form said line (bytes ∷ more) outcome =
    (r : Result S LineFault) × (form.comes said line bytes r × IsTextOutcome r line outcome (λ next. Lead form next (line + 1) more outcome))

-- what a text comes to
abbrev pub Comes : {S : Type 0} → TextForm S → List ℕ → Outcome S → Type 0
Comes form text outcome = Lead form form.begins 1 (lines text) outcome

-- after what was said so far a line comes to one thing, and always to one
pub record IsDecided {S : Type 0} (form : TextForm S) : Type 0 where
  pub one : (said : S) (line : ℕ) (bytes : List ℕ) (a b : Result S LineFault) → form.comes said line bytes a → form.comes said line bytes b → a ≡ b
  pub some : (said : S) (line : ℕ) (bytes : List ℕ) → ((r : Result S LineFault) → ¬ form.comes said line bytes r) → ⊥

-- ---- why a text isn't read

-- its first fault, or want of memory
abbrev pub IsNotReadAs : {S : Type 0} → TextForm S → List ℕ → TextStop → Type 0
IsNotReadAs form text (stops.Bad line kind) = Comes form text (fails line (line_faults.Bad kind))
IsNotReadAs form text (stops.Limit limit) =
    Comes form text (fails limit.line (line_faults.Limit limit.which)) × (limit.number ≡ limit_number limit.which)
IsNotReadAs form text stops.Memory = Unit {0}

-- why a text isn't read that stops at this line
abbrev pub stop_at : ℕ → LineStop → TextStop
stop_at line (line_stops.Faulty (line_faults.Bad kind)) = stops.Bad line kind
stop_at line (line_stops.Faulty (line_faults.Limit which)) =
    stops.Limit (record { which = which; number = limit_number which; line = line })
stop_at line line_stops.Memory = stops.Memory

-- ---- drafts, which hold what was said so far

-- a stop is the fault that this says of, or want of memory
abbrev pub IsStopBy : (LineFault → Type 0) → LineStop → Type 0
IsStopBy P (line_stops.Faulty fault) = P fault
IsStopBy P line_stops.Memory = Unit {0}

-- the draft holds what is said before the first line
abbrev pub Starts : {S D : Type 0} → TextForm S → (S → D → Type 0) → D → Type 0
Starts form holds draft = holds form.begins draft

-- a draft that held what was said so far holds what the line makes of it
abbrev pub LineStep : {S D : Type 0} → TextForm S → (S → D → Type 0) → ℕ → List ℕ → D → D → Type 0
LineStep {S} form holds line bytes old new =
    (said : S) → holds said old → (next : S) × (form.comes said line bytes (Ok next) × holds next new)

-- a stop is what is wrong with the line after what the draft holds, or want of memory
abbrev pub LineStops : {S D : Type 0} → TextForm S → (S → D → Type 0) → ℕ → List ℕ → D → LineStop → Type 0
LineStops {S} form holds line bytes old stop =
    (said : S) → holds said old → IsStopBy (λ fault. form.comes said line bytes (Err fault)) stop

-- the draft holds what the lines say, and the text comes to what its end makes of that
pub record IsReadWhole {S D : Type 0} (form : TextForm S) (holds : S → D → Type 0) (text : List ℕ) (draft : D) : Type 0 where
  pub said : S
  pub keeps : holds said draft
  pub leads : (o : Outcome S) → IsTextEnd (form.lacks said) said o → Comes form text o

-- the draft holds what the text says
pub record IsReadAs {S D : Type 0} (form : TextForm S) (holds : S → D → Type 0) (text : List ℕ) (draft : D) : Type 0 where
  pub said : S
  pub comes : Comes form text (gives said)
  pub keeps : holds said draft

-- ---- lines without tokens to read

abbrev pub flaw_kind : Flaw → BadKind
flaw_kind flaws.BadByte = kinds.BadByte
flaw_kind flaws.BadNumber = kinds.BadNumber

-- the line's first flaw is its fault
abbrev pub IsFlawed : List ℕ → LineFault → Type 0
IsFlawed line fault = (flaw : Flaw) × ((line_lexemes line ≡ Err flaw) × (fault ≡ line_faults.Bad (flaw_kind flaw)))

abbrev pub fault_kind : LexFault → BadKind
fault_kind (lex_faults.BadByte line) = kinds.BadByte
fault_kind (lex_faults.BadNumber line) = kinds.BadNumber

-- the stop of a line that has no tokens
abbrev pub lexing_stop : LexStop → LineStop
lexing_stop (lex_stops.Fault fault) = line_stops.Faulty (line_faults.Bad (fault_kind fault))
lexing_stop lex_stops.Memory = line_stops.Memory
