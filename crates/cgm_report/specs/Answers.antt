-- The reports of answers.
use Rattle.std.specs.Prelude.{ℕ, ◌+◌, List, [], ◌∷◌, ◌++◌, codes, IfSome, Option, Some, None}
use Rattle.std.specs.Fmt.{decimal}
use Rattle.cgm_base.specs.Printed.{line}
use Rattle.cgm_model.specs.declared.lists.Lists.{Lists}
use Rattle.cgm_encode.specs.declared.answer.Answer.{Answer}
use Rattle.cgm_encode.specs.declared.answer.Answer.TheVariants as answers
use Rattle.cgm_encode.specs.declared.answer.Found.{Found}
use Rattle.cgm_report.specs.Report.{unrealizable}
use Rattle.cgm_report.specs.Shown.{IsShowable, shown_lines, shown_report}

-- what a worker spent
abbrev pub spent_line : ℕ → ℕ → List ℕ
spent_line worker moves = line (codes "spent " ++ decimal worker ++ codes " " ++ decimal moves)

-- one line for each worker, from this one on
abbrev pub spent_lines : ℕ → List ℕ → List ℕ
spent_lines worker [] = []
spent_lines worker (moves ∷ spent) = spent_line worker moves ++ spent_lines (worker + 1) spent

-- the best realization so far, if any
abbrev pub best_lines : Lists → Option Found → List ℕ
best_lines m None = line (codes "best none")
best_lines m (Some found) = line (codes "best") ++ shown_lines m found

abbrev pub exhausted : Lists → Option Found → List ℕ → List ℕ
exhausted m best spent = line (codes "exhausted") ++ spent_lines 0 spent ++ best_lines m best

abbrev pub left_open : Lists → Option Found → List ℕ
left_open m best = line (codes "open") ++ best_lines m best

abbrev pub report_of : Lists → Answer → List ℕ
report_of m (answers.Realized found entries) = shown_report m found
report_of m (answers.Unrealizable entries) = unrealizable
report_of m (answers.Exhausted best spent entries) = exhausted m best spent
report_of m (answers.Open best) = left_open m best

-- what is found in the answer has a line for each of its numbers
abbrev pub IsReportable : Lists → Answer → Type 0
IsReportable m (answers.Realized found entries) = IsShowable m found
IsReportable m (answers.Unrealizable entries) = Unit {0}
IsReportable m (answers.Exhausted best spent entries) = IfSome best (IsShowable m)
IsReportable m (answers.Open best) = IfSome best (IsShowable m)
