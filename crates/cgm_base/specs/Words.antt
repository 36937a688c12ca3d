-- The words that fault lines have for a kind of fault and for a limited quantity, and each limit's number.
use Rattle.std.specs.Prelude.{ℕ, List, codes}
use Rattle.cgm_base.specs.declared.fault.BadKind.{BadKind}
use Rattle.cgm_base.specs.declared.fault.BadKind.TheVariants as kinds
use Rattle.cgm_base.specs.declared.limit.Which.{Which}
use Rattle.cgm_base.specs.declared.limit.Which.TheVariants as limits

abbrev pub kind_word : BadKind → List ℕ
kind_word kinds.BadByte = codes "bad-byte"
kind_word kinds.BadNumber = codes "bad-number"
kind_word kinds.Header = codes "header"
kind_word kinds.Statement = codes "statement"
kind_word kinds.Form = codes "form"
kind_word kinds.UnknownName = codes "unknown-name"
kind_word kinds.WrongKind = codes "wrong-kind"
kind_word kinds.Name = codes "name"
kind_word kinds.DoubleName = codes "double-name"
kind_word kinds.CrossedBounds = codes "crossed-bounds"
kind_word kinds.DoubleSource = codes "double-source"
kind_word kinds.DoubleTerm = codes "double-term"
kind_word kinds.DoubleInterest = codes "double-interest"
kind_word kinds.TaskRefined = codes "task-refined"
kind_word kinds.AssumptionRefined = codes "assumption-refined"
kind_word kinds.Cycle = codes "cycle"

abbrev pub limit_word : Which → List ℕ
limit_word limits.TextBytes = codes "text-bytes"
limit_word limits.NameBytes = codes "name-bytes"
limit_word limits.Statements = codes "statements"
limit_word limits.Elements = codes "elements"
limit_word limits.Refinements = codes "refinements"
limit_word limits.Sources = codes "sources"
limit_word limits.FormulaNodes = codes "formula-nodes"
limit_word limits.FormulaDepth = codes "formula-depth"
limit_word limits.Objectives = codes "objectives"
limit_word limits.Coefficient = codes "coefficient"
limit_word limits.VariableBound = codes "variable-bound"
limit_word limits.Row = codes "row"
limit_word limits.Trial = codes "trial"

-- the most bytes that a text has which is read line by line: 16 MiB
abbrev pub most_bytes : ℕ
most_bytes = 16777216

abbrev pub limit_number : Which → ℕ
limit_number limits.TextBytes = most_bytes
limit_number limits.NameBytes = 64
limit_number limits.Statements = 1000000
limit_number limits.Elements = 20000
limit_number limits.Refinements = 20000
limit_number limits.Sources = 256
limit_number limits.FormulaNodes = 200000
limit_number limits.FormulaDepth = 200
limit_number limits.Objectives = 8
limit_number limits.Coefficient = 1000000
limit_number limits.VariableBound = 1000000000
limit_number limits.Row = 4000000000000000000
limit_number limits.Trial = 2000
