-- How the runs of the workers on a problem ended, and what is told of them.
use Rattle.std.specs.Prelude.{◌≡◌, ℕ, ◌≤◌, List, ◌++◌, map, vec_len, Option, Some, None, Result, Ok, Err}
use Rattle.std.specs.List.{All}
use Rattle.cgm_atom.specs.declared.entries.Entry.{Entry}
use Rattle.cgm_atom.specs.Acceptance.{IsClosed}
use Rattle.cgm_atom.specs.Instance.{Instance}
use Rattle.cgm_crew.specs.Crews.{AreEndsOver}
use Rattle.cgm_crew.specs.declared.crews.CrewEnd.{CrewEnd}
use Rattle.cgm_encode.specs.declared.answer.Answer.{Answer}
use Rattle.cgm_encode.specs.declared.answer.Answer.TheVariants.{Exhausted, Open, Realized, Unrealizable}
use Rattle.cgm_encode.specs.declared.answer.Encoded.{Encoded}
use Rattle.cgm_encode.specs.declared.answer.Found.{Found}
use Rattle.cgm_log.specs.LogBook.{IsLog}
use Rattle.cgm_search.specs.declared.plans.Plan.{Plan}
use Rattle.cgm_search.specs.declared.plans.Stopped.{Stopped}
use Rattle.cgm_search.specs.declared.plans.Stopped.TheVariants as stopped
use Rattle.cgm_trail.specs.TrailState.{TrailState}
use Rattle.cgm_solve.specs.Answers.{IsLastBestOf}

-- ---- the runs

-- so many workers ended, each as its trail and the log show
pub record IsEnded (p : Instance) (workers : ℕ) (plan : Plan) (e : CrewEnd) : Type 0 where
  pub log : IsLog e.log
  pub problem : e.log.problem ≡ p
  pub some : 1 ≤ workers
  pub count : vec_len e.stopped ≡ workers
  pub ends : AreEndsOver p plan e.log.entries e.stopped.items e.trails.items

-- each spent its budget
abbrev pub AreSpent : List Stopped → Type 0
AreSpent ended = All (λ s. s ≡ stopped.Spent) ended

-- ---- what is told of them, and the trails of a work before and after

-- how many moves each made
abbrev pub moves_of : List TrailState → List ℕ
moves_of trails = map (λ t. t.moves) trails

-- the answer of a closed log
abbrev pub closed_answer : Option Found → List Entry → Answer
closed_answer None entries = Unrealizable entries
closed_answer (Some found) entries = Realized found entries

-- what the workers spent is answered, and their trails added; or there is no memory
abbrev pub AreTrailsKept : {E : Type 0} → List TrailState → List TrailState → List TrailState → Result (List ℕ) E → Type 0
AreTrailsKept trails before after (Ok spent) = (spent ≡ moves_of trails) × (after ≡ before ++ trails)
AreTrailsKept trails before after (Err e) = after ≡ before

-- what the workers spent is told, and their trails added; or there is no memory
abbrev pub IsExhausted : {E : Type 0} → Option Found → List Entry → List TrailState → List TrailState → List TrailState → Result Answer E → Type 0
IsExhausted best entries trails before after (Ok answer) =
    (answer ≡ Exhausted best (moves_of trails) entries) × (after ≡ before ++ trails)
IsExhausted best entries trails before after (Err e) = after ≡ before

-- the answer by a closed log, or by one that isn't closed where every budget is spent
abbrev pub IsToldOf : Encoded → CrewEnd → List TrailState → List TrailState → Answer → Type 0
IsToldOf encoded e before after (Realized found entries) =
    (entries ≡ e.log.entries) × IsClosed entries × IsLastBestOf encoded entries (Some found) × (after ≡ before)
IsToldOf encoded e before after (Unrealizable entries) =
    (entries ≡ e.log.entries) × IsClosed entries × IsLastBestOf encoded entries None × (after ≡ before)
IsToldOf encoded e before after (Exhausted best spent entries) =
    (entries ≡ e.log.entries)
    × (¬ IsClosed e.log.entries)
    × AreSpent e.stopped.items
    × IsLastBestOf encoded entries best
    × (spent ≡ moves_of e.trails.items)
    × (after ≡ before ++ e.trails.items)
IsToldOf encoded e before after (Open best) = ⊥

abbrev pub IsAnswerTold : {E : Type 0} → Encoded → CrewEnd → List TrailState → List TrailState → Result Answer E → Type 0
IsAnswerTold encoded e before after (Ok answer) = IsToldOf encoded e before after answer
IsAnswerTold encoded e before after (Err error) = after ≡ before
