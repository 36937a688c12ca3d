-- The statements of a text with their lines, the model that these give, and the first fault of a text that has none.
use Rattle.std.specs.Prelude.{◌≡◌, ℕ, List, [], ◌∷◌, ◌++◌, Option, None, Some, Result, Ok, Err}
use Rattle.std.specs.Option.{option_map}
use Rattle.cgm_base.specs.Words.{limit_number}
use Rattle.cgm_lex.specs.Readings.{TextForm, gives, fails, Comes, lacks_header}
use Rattle.cgm_model.specs.declared.lists.Lists.{Lists}
use Rattle.cgm_model.specs.declared.lists.Statement.{Statement}
use Rattle.cgm_model.specs.declared.lists.Statement.TheVariants as statements
use Rattle.cgm_model.specs.Lists.{no_lists, added}
use Rattle.cgm_lex.specs.declared.stops.LineFault.{LineFault}
use Rattle.cgm_lex.specs.declared.stops.LineFault.TheVariants as line_faults
use Rattle.cgm_lex.specs.declared.stops.TextStop.{TextStop}
use Rattle.cgm_lex.specs.declared.stops.TextStop.TheVariants as stops
use Rattle.cgm_text.specs.Line.{Verdict, nothing, header, says, faulty, ComesTo}

-- a statement with the number of its line, from 1
pub record LineStatement : Type 0 where
  pub line : ℕ
  pub statement : Statement

abbrev pub on_line : ℕ → Statement → LineStatement
on_line line s = record { line = line; statement = s }

-- the lists with these statements added in order
abbrev pub all_added : Lists → List LineStatement → Lists
all_added m [] = m
all_added m (s ∷ rest) = all_added (added m s.statement) rest

-- the model that statements give
abbrev pub model_of : List LineStatement → Lists
model_of said = all_added no_lists said

-- the statement's line, if it is a rule
abbrev pub rule_line : ℕ → Statement → List ℕ
rule_line line (statements.Rule r) = line ∷ []
rule_line line s = []

-- the lines of the rules, in the order of the rules
abbrev pub rule_lines : List LineStatement → List ℕ
rule_lines [] = []
rule_lines (s ∷ rest) = rule_line s.line s.statement ++ rule_lines rest

-- the statements so far after a line with this number, where there are none before the header; or the line's fault
abbrev pub after_line : Option (List LineStatement) → ℕ → Verdict → Result (Option (List LineStatement)) LineFault
after_line so_far line nothing = Ok so_far
after_line so_far line header = Ok (Some [])
after_line so_far line (says s) = Ok (option_map (λ said. said ++ on_line line s ∷ []) so_far)
after_line so_far line (faulty fault) = Err fault

-- what a line with this number makes of the statements so far
abbrev pub LineComesTo : Option (List LineStatement) → ℕ → List ℕ → Result (Option (List LineStatement)) LineFault → Type 0
LineComesTo so_far line bytes r =
    (v : Verdict) × (ComesTo (option_map model_of so_far) bytes v × (r ≡ after_line so_far line v))

-- the form of model texts: statements, each on a line, after a header
abbrev pub model_text : TextForm (Option (List LineStatement))
model_text = record { begins = None; comes = LineComesTo; lacks = lacks_header }

-- the text has these statements and no fault
unfoldable pub HasStatements : List ℕ → List LineStatement → Type 0
HasStatements text said = Comes model_text text (gives (Some said))

-- the text's first faulty line, from 1, and what is wrong with it
unfoldable pub HasFault : List ℕ → ℕ → LineFault → Type 0
HasFault text line fault = Comes model_text text (fails line fault)

-- the text is one of this model, with these lines of its rules
pub record IsReading (text : List ℕ) (m : Lists) (lines_of_rules : List ℕ) : Type 0 where
  pub said : List LineStatement
  pub has : HasStatements text said
  pub model_is : m ≡ model_of said
  pub lines_are : lines_of_rules ≡ rule_lines said

-- the text is one of this model
abbrev pub IsTextOf : List ℕ → Lists → Type 0
IsTextOf text m = (said : List LineStatement) × (HasStatements text said × (m ≡ model_of said))

-- why a text isn't read: its first fault, or want of memory
abbrev pub IsNotRead : List ℕ → TextStop → Type 0
IsNotRead text (stops.Bad line kind) = HasFault text line (line_faults.Bad kind)
IsNotRead text (stops.Limit limit) = HasFault text limit.line (line_faults.Limit limit.which) × (limit.number ≡ limit_number limit.which)
IsNotRead text stops.Memory = Unit {0}
