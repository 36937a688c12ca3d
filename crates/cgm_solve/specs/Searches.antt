-- What a search for a least solution answers.
use Rattle.std.specs.Prelude.{◌≡◌, ℕ, List, Result, Ok, Err}
use Rattle.cgm_model.specs.declared.lists.Lists.{Lists}
use Rattle.cgm_evolve.specs.Pairs.{Pair}
use Rattle.cgm_encode.specs.declared.answer.Answer.{Answer}
use Rattle.cgm_search.specs.declared.plans.Plan.{Plan}
use Rattle.cgm_trail.specs.TrailState.{TrailState}
use Rattle.cgm_solve.specs.Answers.{IsSolved}

-- an answer for the model, or want of memory
abbrev pub IsSearchAnswer : {E : Type 0} → Lists → List Pair → ℕ → Plan → List TrailState → List TrailState → Result Answer E → Type 0
IsSearchAnswer m pairs workers plan before after (Ok answer) = IsSolved m pairs workers plan before after answer
IsSearchAnswer m pairs workers plan before after (Err e) = after ≡ before
