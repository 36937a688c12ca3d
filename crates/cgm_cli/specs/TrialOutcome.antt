-- The outcome of `trial`: a generated model was solved, its certificate checked and a summary printed, or there are too many goals.
use Rattle.std.specs.Prelude.{◌≡◌, ◌⊎◌, ℕ, ◌<◌, ◌≤◌, Bool, true, false, List, [], ◌∷◌, ◌++◌, codes, ℤ, pos, None}
use Rattle.std.specs.Fmt.{decimal}
use Rattle.cgm_base.specs.declared.limit.Limit.{Limit}
use Rattle.cgm_base.specs.declared.limit.Which.TheVariants as limits
use Rattle.cgm_base.specs.declared.status.Status.{Status}
use Rattle.cgm_base.specs.declared.status.Status.TheVariants.{Done, Limit as LimitPassed, Open, Write, Memory}
use Rattle.cgm_base.specs.Printed.{line}
use Rattle.cgm_atom.specs.declared.entries.Entry.{Entry}
use Rattle.cgm_encode.specs.declared.answer.Answer.{Answer}
use Rattle.cgm_encode.specs.declared.answer.Answer.TheVariants as answers
use Rattle.cgm_encode.specs.declared.answer.Found.{Found}
use Rattle.cgm_gen.specs.Draws.{least_cost, most_goals}
use Rattle.cgm_gen.specs.GeneratedModel.{generated_model}
use Rattle.cgm_report.specs.Answers.{IsReportable, report_of}
use Rattle.cgm_search.specs.declared.plans.Plan.{Plan}
use Rattle.cgm_shelf.specs.Sink.{SinkState}
use Rattle.cgm_solve.specs.Answers.{HasNoRealization, IsSolved, ShowsRealized}
use Rattle.cgm_solve.specs.declared.verifying.Verified.{Verified}
use Rattle.cgm_solve.specs.declared.verifying.Verified.TheVariants.{Refused, Shown}
use Rattle.cgm_cli.specs.Effects.{World, IsCutOff, IsPrinted, IsTold, TellsOrLacksMemory}
use Rattle.cgm_cli.specs.FaultLines.{limit_fault, memory_fault}
use Rattle.cgm_cli.specs.SolveOutcome.{PrintsExhausted, wanted}

-- ---- what is printed

-- the number of goals, a cost, and that it is least
abbrev pub summary_of : ℕ → ℕ → List ℕ
summary_of goals cost =
    line (codes "trial " ++ decimal goals)
    ++ (line (codes "objective min cost " ++ decimal cost) ++ line (codes "verdict least"))

-- the summary of a generated model, with its least cost
abbrev pub trial_summary : ℕ → List ℕ
trial_summary goals = summary_of goals (least_cost goals)

-- the summary of a solved model; for a spent budget its report
abbrev pub trial_report : ℕ → Answer → List ℕ
trial_report goals (answers.Realized found entries) = trial_summary goals
trial_report goals answer = report_of (generated_model goals) answer

abbrev pub trial_limit : Limit
trial_limit = record { which = limits.Trial; number = most_goals; line = 0 }

-- ---- the outcome

-- the summary was printed, and entries that were checked show that the cost is least
pub record PrintsVerdict (goals : ℕ) (old new : SinkState) : Type 0 where
  pub found : Found
  pub entries : List Entry
  pub shown : ShowsRealized (generated_model goals) [] entries found
  pub printed : IsPrinted (trial_summary goals) old new

-- there is an answer, and the sink failed over what is printed of it
pub record IsTrialLost (goals workers : ℕ) (plan : Plan) (before after : World) : Type 0 where
  pub answer : Answer
  pub solved : IsSolved (generated_model goals) [] workers plan before.work after.work answer
  pub lost : IsCutOff (trial_report goals answer) before.sink after.sink

-- `trial` with so many goals, by so many workers with this plan; nothing is known of an earlier realization, and no certificate is written
abbrev pub HasTrialOutcome : ℕ → ℕ → Plan → World → World → Status → Type 0
HasTrialOutcome goals workers plan found left LimitPassed =
    (most_goals < goals) × IsTold (limit_fault trial_limit) found.sink left.sink
HasTrialOutcome goals workers plan found left Done =
    (goals ≤ most_goals) × PrintsVerdict goals found.sink left.sink
HasTrialOutcome goals workers plan found left Open =
    (goals ≤ most_goals)
    × PrintsExhausted (wanted workers plan None) found left (generated_model goals) []
HasTrialOutcome goals workers plan found left Write =
    (goals ≤ most_goals) × IsTrialLost goals workers plan found left
HasTrialOutcome goals workers plan found left Memory = IsTold memory_fault found.sink left.sink
HasTrialOutcome goals workers plan found left status = ⊥

-- ---- steps of it

-- no model was generated, as was told: there are too many goals, or memory was wanted
abbrev pub HasNothingGenerated : ℕ → SinkState → SinkState → Status → Type 0
HasNothingGenerated goals old new status =
    ((most_goals < goals) × TellsOrLacksMemory (limit_fault trial_limit) LimitPassed old new status)
    ⊎ ((status ≡ Memory) × IsTold memory_fault old new)

-- what a search says of an answer before it is printed
abbrev pub IsTrialAnswer : ℕ → Answer → Type 0
IsTrialAnswer goals (answers.Realized found entries) =
    ShowsRealized (generated_model goals) [] entries found
IsTrialAnswer goals (answers.Unrealizable entries) = HasNoRealization (generated_model goals)
IsTrialAnswer goals (answers.Exhausted best spent entries) =
    IsReportable (generated_model goals) (answers.Exhausted best spent entries)
IsTrialAnswer goals (answers.Open best) = ⊥

-- the one objective of a least realization
abbrev pub cost_vector : ℕ → List ℤ
cost_vector goals = pos (least_cost goals) ∷ []

-- what was verified is that the entries show a least realization
abbrev pub is_least_verdict : Verified → Bool
is_least_verdict (Shown (answers.Realized found entries)) = true
is_least_verdict (Shown answer) = false
is_least_verdict (Refused step why) = false
