-- What it is to solve a model with a plan, and what entries show of a model: answers over the model itself, beside the entries that show them.
use Rattle.std.specs.Prelude.{◌≡◌, ℕ, ◌≤◌, ℤ, List, [], ◌++◌, length, map, IsSomeAnd, Option, Some, None, Result, Ok, Err}
use Rattle.std.specs.List.{All}
use Rattle.cgm_formula.specs.declared.assignment.Assignment.{Assignment}
use Rattle.cgm_model.specs.declared.lists.Lists.{Lists}
use Rattle.cgm_evolve.specs.Pairs.{Pair}
use Rattle.cgm_obj.specs.Least.{IsLeastRealization, Realizes}
use Rattle.cgm_atom.specs.declared.entries.BadStep.{BadStep}
use Rattle.cgm_atom.specs.declared.entries.Entry.{Entry}
use Rattle.cgm_atom.specs.Acceptance.{IsAccepted, IsClosed}
use Rattle.cgm_atom.specs.Instance.{Instance}
use Rattle.cgm_atom.specs.LogState.{last_best, state_of}
use Rattle.cgm_atom.specs.Ranges.{IsPrintable}
use Rattle.cgm_check.specs.Verdicts.{IsRefusedAt}
use Rattle.cgm_trail.specs.TrailState.{TrailState}
use Rattle.cgm_search.specs.declared.plans.Plan.{Plan}
use Rattle.cgm_search.specs.Spending.{IsSpentTrail}
use Rattle.cgm_encode.specs.declared.answer.Answer.{Answer}
use Rattle.cgm_encode.specs.declared.answer.Answer.TheVariants.{Exhausted, Open, Realized, Unrealizable}
use Rattle.cgm_encode.specs.declared.answer.Encoded.{Encoded}
use Rattle.cgm_encode.specs.declared.answer.Found.{Found}
use Rattle.cgm_enc_formula.specs.declared.stop.EncodeStop.{EncodeStop as SolveStop}
use Rattle.cgm_enc_formula.specs.declared.stop.EncodeStop.TheVariants.{Memory, Row}
use Rattle.cgm_encode.specs.Decoding.{ForEncoded, IsDecodedFound}
use Rattle.cgm_encode.specs.Encoding.{IsEncodable, IsEncodeAnswer}
use Rattle.cgm_encode.specs.Problem.{problem_of}
use Rattle.cgm_solve.specs.declared.verifying.Verified.{Verified}
use Rattle.cgm_solve.specs.declared.verifying.Verified.TheVariants.{Refused, Shown}

-- ---- what is found

-- what is found stands for the values of a best; nothing is found where there is none
abbrev pub IsDecodedBest : Lists → List Pair → Option (List ℤ) → Option Found → Type 0
IsDecodedBest m pairs best None = best ≡ None
IsDecodedBest m pairs best (Some found) = IsSomeAnd best (λ values. IsDecodedFound m pairs values found)

-- the same of the last best of the entries
abbrev pub IsLastBest : Lists → List Pair → List Entry → Option Found → Type 0
IsLastBest m pairs entries found = IsDecodedBest m pairs (last_best (state_of entries)) found

-- whatever model and earlier realization this is the encoding of
abbrev pub IsLastBestOf : Encoded → List Entry → Option Found → Type 0
IsLastBestOf encoded entries found = ForEncoded encoded (λ m pairs. IsLastBest m pairs entries found)

abbrev pub HasNoRealization : Lists → Type 0
HasNoRealization m = (a : Assignment) → ¬ Realizes m a

-- ---- what entries show

-- the entries are accepted and closed, and their last best is a least realization
pub record ShowsRealized (m : Lists) (pairs : List Pair) (entries : List Entry) (found : Found) : Type 0 where
  pub accepted : IsAccepted (problem_of m pairs) entries
  pub closed : IsClosed entries
  pub best : IsLastBest m pairs entries (Some found)
  pub least : IsLeastRealization m pairs found.assignment

-- the entries are accepted and closed, and have no best, so that there is no realization
pub record ShowsUnrealizable (m : Lists) (pairs : List Pair) (entries : List Entry) : Type 0 where
  pub accepted : IsAccepted (problem_of m pairs) entries
  pub closed : IsClosed entries
  pub no_best : last_best (state_of entries) ≡ None
  pub none : HasNoRealization m

-- the entries are accepted and not closed, and this is their last best, if any
pub record LeavesOpen (m : Lists) (pairs : List Pair) (entries : List Entry) (best : Option Found) : Type 0 where
  pub accepted : IsAccepted (problem_of m pairs) entries
  pub not_closed : ¬ IsClosed entries
  pub best_is : IsLastBest m pairs entries best

-- ---- verifying

-- an answer by these entries alone
abbrev pub IsShown : Lists → List Pair → List Entry → Answer → Type 0
IsShown m pairs entries (Realized found own) = (own ≡ entries) × ShowsRealized m pairs entries found
IsShown m pairs entries (Unrealizable own) = (own ≡ entries) × ShowsUnrealizable m pairs entries
IsShown m pairs entries (Exhausted best spent own) = ⊥
IsShown m pairs entries (Open best) = LeavesOpen m pairs entries best

-- what the entries show, or the first of them that isn't accepted and the test that it fails
abbrev pub IsVerified : Lists → List Pair → List Entry → Verified → Type 0
IsVerified m pairs entries (Shown answer) = IsShown m pairs entries answer
IsVerified m pairs entries (Refused step why) = IsRefusedAt (problem_of m pairs) entries step why

-- the first rule with a comparison whose measure passes the limit
abbrev pub IsPastLimit : Lists → List Pair → ℕ → Type 0
IsPastLimit m pairs rule = IsEncodeAnswer m pairs (Err (Row rule))

-- what the entries show, or why the model has no encoding
abbrev pub IsVerifyAnswer : Lists → List Pair → List Entry → Result Verified SolveStop → Type 0
IsVerifyAnswer m pairs entries (Ok verified) = IsEncodable m × IsVerified m pairs entries verified
IsVerifyAnswer m pairs entries (Err (Row rule)) = IsPastLimit m pairs rule
IsVerifyAnswer m pairs entries (Err Memory) = Unit {0}

-- ---- solving

-- so many trails, each of a spent budget over these entries, were added behind the trails before
pub record IsSpentWork (p : Instance) (workers : ℕ) (plan : Plan) (entries : List Entry) (before after : List TrailState) (spent : List ℕ) : Type 0 where
  pub trails : List TrailState
  pub some : 1 ≤ workers
  pub count : length trails ≡ workers
  pub are_spent : All (IsSpentTrail p plan entries) trails
  pub added : after ≡ before ++ trails
  pub moves : spent ≡ map (λ t. t.moves) trails

-- the answer of so many workers, each with this plan; a certificate can write the entries of each answer
abbrev pub IsSolved : Lists → List Pair → ℕ → Plan → List TrailState → List TrailState → Answer → Type 0
IsSolved m pairs workers plan before after (Realized found entries) =
    ShowsRealized m pairs entries found × All IsPrintable entries × (after ≡ before)
IsSolved m pairs workers plan before after (Unrealizable entries) =
    ShowsUnrealizable m pairs entries × All IsPrintable entries × (after ≡ before)
IsSolved m pairs workers plan before after (Exhausted best spent entries) =
    LeavesOpen m pairs entries best × All IsPrintable entries × IsSpentWork (problem_of m pairs) workers plan entries before after spent
IsSolved m pairs workers plan before after (Open best) = ⊥

abbrev pub IsSolveAnswer : Lists → List Pair → ℕ → Plan → List TrailState → List TrailState → Result Answer SolveStop → Type 0
IsSolveAnswer m pairs workers plan before after (Ok answer) = IsEncodable m × IsSolved m pairs workers plan before after answer
IsSolveAnswer m pairs workers plan before after (Err (Row rule)) = IsPastLimit m pairs rule × (after ≡ before)
IsSolveAnswer m pairs workers plan before after (Err Memory) = after ≡ before
