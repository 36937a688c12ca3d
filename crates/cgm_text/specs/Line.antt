-- What a line comes to: nothing, the header, a statement, or a fault; the tests stand in the order in which the first that fails is told.
use Rattle.std.specs.Prelude.{◌≡◌, ◌≢◌, ℕ, Bool, true, false, List, [], ◌∷◌, Option, None, Some, Result, Ok, Err}
use Rattle.cgm_base.specs.declared.fault.BadKind.{BadKind}
use Rattle.cgm_base.specs.declared.fault.BadKind.TheVariants as kinds
use Rattle.cgm_base.specs.declared.limit.Which.TheVariants as limits
use Rattle.cgm_base.specs.Words.{limit_number}
use Rattle.cgm_lex.specs.declared.token.Flaw.{Flaw}
use Rattle.cgm_lex.specs.Lexemes.{Lexeme, word, line_lexemes}
use Rattle.cgm_lex.specs.Readings.{flaw_kind}
use Rattle.cgm_model.specs.declared.lists.Lists.{Lists}
use Rattle.cgm_model.specs.declared.lists.Statement.{Statement}
use Rattle.cgm_model.specs.declared.stop.AddStop.TheVariants as stops
use Rattle.cgm_model.specs.declared.stop.Fault.{Fault}
use Rattle.cgm_model.specs.declared.stop.Fault.TheVariants as faults
use Rattle.cgm_model.specs.Statement.{IsAllowed, IsRefused}
use Rattle.cgm_lex.specs.declared.stops.LineFault.{LineFault}
use Rattle.cgm_lex.specs.declared.stops.LineFault.TheVariants as line_faults
use Rattle.cgm_print.specs.declared.words.Sort.{Sort}
use Rattle.cgm_text.specs.Meaning.{statement_of}
use Rattle.cgm_print.specs.Statements.{WrittenStatement, header_tokens, sort_word, statement_tokens}
use Rattle.cgm_text.specs.Trees.{is_deeper}
use Rattle.cgm_text.specs.Uses.{first_name_fault, statement_uses}
use Rattle.cgm_text.specs.Parsed.{BeginsNoStatement}

pub data Verdict : Type 0 where
  nothing : Verdict
  header : Verdict
  says : Statement → Verdict
  faulty : LineFault → Verdict

abbrev pub refusal_kind : Fault → BadKind
refusal_kind faults.Name = kinds.Name
refusal_kind faults.DoubleName = kinds.DoubleName
refusal_kind faults.CrossedBounds = kinds.CrossedBounds
refusal_kind faults.DoubleSource = kinds.DoubleSource
refusal_kind faults.DoubleTerm = kinds.DoubleTerm
refusal_kind faults.DoubleInterest = kinds.DoubleInterest
refusal_kind faults.TaskRefined = kinds.TaskRefined
refusal_kind faults.AssumptionRefined = kinds.AssumptionRefined
refusal_kind faults.Cycle = kinds.Cycle

-- what tokens come to by their form alone
pub data Form : Type 0 where
  no_word : Form
  no_form : Form
  written : WrittenStatement → Form

-- the first token is a statement word
pub record BeginsStatement (tokens : List Lexeme) : Type 0 where
  pub sort : Sort
  pub after : List Lexeme
  pub begins : tokens ≡ word (sort_word sort) ∷ after

abbrev pub HasForm : List Lexeme → Form → Type 0
HasForm tokens no_word = BeginsNoStatement tokens
HasForm tokens no_form = BeginsStatement tokens × ((s : WrittenStatement) → tokens ≢ statement_tokens s)
HasForm tokens (written s) = tokens ≡ statement_tokens s

-- this is the fault of the first test that the statement fails after these lists
abbrev pub IsRefusedAs : Lists → Statement → LineFault → Type 0
IsRefusedAs m s (line_faults.Bad kind) = (fault : Fault) × (IsRefused m s (stops.Refused fault) × (kind ≡ refusal_kind fault))
IsRefusedAs m s (line_faults.Limit which) = IsRefused m s (stops.Limit which)

-- a statement whose names are right
abbrev pub IsJudged : Lists → Statement → Verdict → Type 0
IsJudged m s nothing = ⊥
IsJudged m s header = ⊥
IsJudged m s (says t) = (t ≡ s) × IsAllowed m s
IsJudged m s (faulty fault) = IsRefusedAs m s fault

-- a statement after what is wrong with the first of its names
abbrev pub IsNamedJudged : Option BadKind → Lists → Statement → Verdict → Type 0
IsNamedJudged (Some kind) m s v = v ≡ faulty (line_faults.Bad kind)
IsNamedJudged None m s v = IsJudged m s v

abbrev pub IsFormJudged : Lists → Form → Verdict → Type 0
IsFormJudged m no_word v = v ≡ faulty (line_faults.Bad kinds.Statement)
IsFormJudged m no_form v = v ≡ faulty (line_faults.Bad kinds.Form)
IsFormJudged m (written s) v = IsNamedJudged (first_name_fault m (statement_uses s)) m (statement_of m s) v

-- tokens after the header
abbrev pub AreJudged : Lists → List Lexeme → Verdict → Type 0
AreJudged m tokens v = (form : Form) × (HasForm tokens form × IsFormJudged m form v)

-- the first tokens of the text
abbrev pub AreFirst : List Lexeme → Verdict → Type 0
AreFirst tokens nothing = ⊥
AreFirst tokens header = tokens ≡ header_tokens
AreFirst tokens (says s) = ⊥
AreFirst tokens (faulty fault) = (tokens ≢ header_tokens) × (fault ≡ line_faults.Bad kinds.Header)

-- tokens of which it is told whether they nest too deep; there are no lists before the header
abbrev pub AreShallowJudged : Bool → Option Lists → List Lexeme → Verdict → Type 0
AreShallowJudged true before tokens v = v ≡ faulty (line_faults.Limit limits.FormulaDepth)
AreShallowJudged false None tokens v = AreFirst tokens v
AreShallowJudged false (Some m) tokens v = AreJudged m tokens v

abbrev pub nests_too_deep : List Lexeme → Bool
nests_too_deep tokens = is_deeper (limit_number limits.FormulaDepth) 0 tokens

abbrev pub AreLexemesJudged : Option Lists → Result (List Lexeme) Flaw → Verdict → Type 0
AreLexemesJudged before (Err flaw) v = v ≡ faulty (line_faults.Bad (flaw_kind flaw))
AreLexemesJudged before (Ok []) v = v ≡ nothing
AreLexemesJudged before (Ok (token ∷ tokens)) v = AreShallowJudged (nests_too_deep (token ∷ tokens)) before (token ∷ tokens) v

-- what the line comes to after these lists, or before the header
abbrev pub ComesTo : Option Lists → List ℕ → Verdict → Type 0
ComesTo before line v = AreLexemesJudged before (line_lexemes line) v
