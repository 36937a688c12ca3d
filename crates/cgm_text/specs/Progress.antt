-- What the reader keeps of the lines so far, and what one more line makes of it.
use Rattle.std.specs.Prelude.{◌≡◌, ℕ, true, false, List, [], ◌++◌, Option, None, Some, Ok}
use Rattle.std.specs.Option.{option_map}
use Rattle.cgm_lex.specs.Lexemes.{Lexeme}
use Rattle.cgm_model.specs.declared.lists.Lists.{Lists}
use Rattle.cgm_model.specs.declared.lists.Statement.{Statement}
use Rattle.cgm_model.specs.declared.stop.AddStop.{AddStop}
use Rattle.cgm_model.specs.declared.stop.AddStop.TheVariants as add_stops
use Rattle.cgm_model.specs.Lists.{no_lists, added}
use Rattle.cgm_model.specs.Model.{lists_of}
use Rattle.cgm_model.specs.Statement.{IsAllowed}
use Rattle.cgm_text.specs.declared.draft.ModelDraft.{ModelDraft}
use Rattle.cgm_lex.specs.declared.stops.LineFault.TheVariants as line_faults
use Rattle.cgm_lex.specs.declared.stops.LineStop.{LineStop}
use Rattle.cgm_lex.specs.declared.stops.LineStop.TheVariants as line_stops
use Rattle.cgm_text.specs.declared.reader.Reading.{Reading}
use Rattle.cgm_text.specs.Line.{Verdict, says, faulty, refusal_kind, AreJudged, AreLexemesJudged}
use Rattle.cgm_text.specs.Meaning.{statement_of}
use Rattle.cgm_print.specs.Statements.{WrittenStatement, statement_tokens}
use Rattle.cgm_text.specs.Text.{LineStatement, after_line, model_of, rule_line, rule_lines}
use Rattle.cgm_text.specs.Uses.{first_name_fault, statement_uses}

-- a stop is the fault that this says of, or want of memory
abbrev pub IsFaultOrMemory : (Verdict → Type 0) → LineStop → Type 0
IsFaultOrMemory P (line_stops.Faulty fault) = P (faulty fault)
IsFaultOrMemory P line_stops.Memory = Unit {0}

-- the tokens make this statement after the lists, and its names are right
pub record MakesStatement (m : Lists) (tokens : List Lexeme) (s : Statement) : Type 0 where
  pub source : WrittenStatement
  pub spelled : tokens ≡ statement_tokens source
  pub names : first_name_fault m (statement_uses source) ≡ None
  pub meaning : statement_of m source ≡ s

pub record IsBegun (said : List LineStatement) (draft : ModelDraft) : Type 0 where
  pub header : draft.has_header ≡ true
  pub lists : draft.builder ≡ model_of said
  pub lines : draft.rule_lines.items ≡ rule_lines said

pub record IsEmpty (draft : ModelDraft) : Type 0 where
  pub header : draft.has_header ≡ false
  pub lists : draft.builder ≡ no_lists
  pub lines : draft.rule_lines.items ≡ []

-- the reader has these statements so far, or none before the header
abbrev pub IsModelDraft : Option (List LineStatement) → ModelDraft → Type 0
IsModelDraft None draft = IsEmpty draft
IsModelDraft (Some said) draft = IsBegun said draft

-- after what it had so far, the reader has what a line with this number makes of it by `P`, which is no fault
pub record Steps (P : Option Lists → Verdict → Type 0) (line : ℕ) (so_far : Option (List LineStatement)) (draft : ModelDraft) : Type 0 where
  pub verdict : Verdict
  pub judged : P (option_map model_of so_far) verdict
  pub next : Option (List LineStatement)
  pub passes : after_line so_far line verdict ≡ Ok next
  pub leaves : IsModelDraft next draft

abbrev pub IsStatementStep : (Option Lists → Verdict → Type 0) → ℕ → ModelDraft → ModelDraft → Type 0
IsStatementStep P line old new = (so_far : Option (List LineStatement)) → IsModelDraft so_far old → Steps P line so_far new

abbrev pub IsStopAfter : (Option Lists → Verdict → Type 0) → ModelDraft → LineStop → Type 0
IsStopAfter P old stop = (so_far : Option (List LineStatement)) → IsModelDraft so_far old → IsFaultOrMemory (P (option_map model_of so_far)) stop

abbrev pub tokens_come_to : List Lexeme → Option Lists → Verdict → Type 0
tokens_come_to tokens before v = AreLexemesJudged before (Ok tokens) v

-- the statement is allowed, and added on the line with this number
pub record IsStatementPut (line : ℕ) (s : Statement) (old new : ModelDraft) : Type 0 where
  pub allowed : IsAllowed old.builder s
  pub header : new.has_header ≡ old.has_header
  pub lists : new.builder ≡ added old.builder s
  pub lines : new.rule_lines.items ≡ old.rule_lines.items ++ rule_line line s

-- the statement of the tokens is added, on the line with this number
pub record IsStatementAdded (line : ℕ) (tokens : List Lexeme) (old new : ModelDraft) : Type 0 where
  pub statement : Statement
  pub judged : AreJudged old.builder tokens (says statement)
  pub header : new.has_header ≡ old.has_header
  pub lists : new.builder ≡ added old.builder statement
  pub lines : new.rule_lines.items ≡ old.rule_lines.items ++ rule_line line statement

-- a draft gives its model and the lines of its rules
pub record IsFinished (draft : ModelDraft) (reading : Reading) : Type 0 where
  pub model : lists_of reading.model ≡ draft.builder
  pub lines : reading.rule_lines.items ≡ draft.rule_lines.items

-- the stop of a line whose statement isn't added
abbrev pub line_stop : AddStop → LineStop
line_stop (add_stops.Refused fault) = line_stops.Faulty (line_faults.Bad (refusal_kind fault))
line_stop (add_stops.Limit which) = line_stops.Faulty (line_faults.Limit which)
line_stop add_stops.Memory = line_stops.Memory
