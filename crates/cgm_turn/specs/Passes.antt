-- A turn and its passes as contracts see them, and what their calls do.
use Rattle.std.specs.Prelude.{◌≡◌, ℕ, ◌+◌, ◌-◌, ◌^◌, List, [], ◌∷◌, ◌++◌, ◌==◌, if◌then◌else◌, IfSome, IfOk, IfErr, Some, Result}
use Rattle.std.specs.Option.{option_map_or}
use Rattle.atomic_table.specs.Seated.{TableId}
use Rattle.cgm_atom.specs.declared.entries.Entry.{Entry}
use Rattle.cgm_atom.specs.Instance.{Instance}
use Rattle.cgm_log.specs.declared.batches.Batch.{Batch}
use Rattle.cgm_log.specs.declared.batches.Refund.{Refund}
use Rattle.cgm_log.specs.declared.batches.Traded.{Traded}
use Rattle.cgm_log.specs.Landing.{landed, with_landed}
use Rattle.cgm_log.specs.LogBook.{LogBook}
use Rattle.cgm_log.specs.Seats.{Seat}
use Rattle.cgm_log.specs.Trading.{IsAnswer, news_of}
use Rattle.cgm_turn.specs.declared.views.Joined.{Joined}
use Rattle.cgm_turn.specs.Entries.{AreOfLog, BeginsWith, made_by}
use Rattle.cgm_turn.specs.Plays.{longer}
use Rattle.cgm_turn.specs.Views.{account_with, landed_of}

-- a turn: its table, the problem of its log, and for how many workers it is
pub record TurnState : Type 0 where
  pub table : TableId
  pub problem : Instance
  pub workers : ℕ

pub record PassState : Type 0 where
  pub table : TableId
  pub problem : Instance
  pub number : ℕ
  -- the entries that it was told, which are a front of the log
  pub told : List Entry
  -- its own entries in the log
  pub own : List Entry
  -- how many it began
  pub trades : ℕ
  -- how many passes were split from it, how many of them aren't joined to it yet, and what it keeps of those that are
  pub splits : ℕ
  pub out : ℕ
  pub joined : List Joined

-- the pass is of the turn
abbrev pub IsPassOf : TurnState → PassState → Type 0
IsPassOf turn pass = (pass.table ≡ turn.table) × (pass.problem ≡ turn.problem)

-- the seat of a pass, as a trader's
abbrev pub seat_of : PassState → Seat
seat_of pass =
    record { problem = pass.problem; told = pass.told; own = pass.own; number = Some pass.number; trades = 2 ^ 59 - pass.trades }

-- what a trader of a pass keeps through its trades
abbrev pub home_of : PassState → PassState
home_of pass = record pass { told = []; own = []; trades = 0 }

-- all but what it was told, what it landed and how often it traded
pub record IsSamePass (old new : PassState) : Type 0 where
  pub table : new.table ≡ old.table
  pub problem : new.problem ≡ old.problem
  pub number : new.number ≡ old.number
  pub splits : new.splits ≡ old.splits
  pub out : new.out ≡ old.out
  pub joined : new.joined ≡ old.joined

-- a trade: the answer is that of a log with what was told and the news; what is told then is that log with the batch, and
-- the pass has landed what was added. After a refusal the batch comes back, and the pass knows what it knew
pub record IsTradeOf (old : PassState) (b : Batch) (r : Result Traded Refund) (new : PassState) : Type 0 where
  pub answer : IfOk r (λ t. IsAnswer old.problem (old.told ++ news_of t) b t)
  pub told : IfOk r (λ t. new.told ≡ with_landed old.problem (old.told ++ news_of t) b)
  pub own : IfOk r (λ t. new.own ≡ old.own ++ landed old.problem (old.told ++ news_of t) b)
  pub refund : IfErr r (λ x. (x.batch ≡ b) × (new.told ≡ old.told) × (new.own ≡ old.own))
  pub trades : new.trades ≡ old.trades + 1
  pub same : IsSamePass old new

-- the first pass of a new turn
abbrev pub beginner : TableId → Instance → PassState
beginner table p = record { table = table; problem = p; number = 0; told = []; own = []; trades = 0; splits = 0; out = 0; joined = [] }

-- the first pass after a split
abbrev pub first_after_split : PassState → PassState
first_after_split first = record first { splits = first.splits + 1; out = first.out + 1 }

-- a pass that is split off from the first
abbrev pub split_pass : PassState → PassState
split_pass first = record { table = first.table; problem = first.problem; number = first.splits + 1; told = first.told; own = []; trades = 0; splits = 0; out = 0; joined = [] }

-- what the first pass keeps of one that is joined to it: what it had seen and landed, and what the first had seen then
abbrev pub account_of : PassState → PassState → Joined
account_of first other = record { number = other.number; seen = other.told; before = first.told; landed = other.own }

-- the first pass, which has seen the longer of both, and keeps what the other had seen and landed
abbrev pub joined_pass : PassState → PassState → PassState
joined_pass first other = record first { told = longer first.told other.told; out = first.out - 1; joined = account_of first other ∷ first.joined }

-- what pass w landed, as the first pass knows it
abbrev pub own_of : PassState → ℕ → List Entry
own_of first w = if w == first.number then first.own else option_map_or landed_of (account_with w first.joined) []

-- the log at the end, as the first pass knows it: it begins with all that was told, and of each pass it has
-- exactly what that pass landed, in its order, each once
pub record IsLogAtClose (first : PassState) (log : LogBook) : Type 0 where
  pub problem : log.problem ≡ first.problem
  pub told : BeginsWith log.entries first.told
  pub own : (w : ℕ) → made_by w log.entries ≡ own_of first w
  pub told_to_joined : (w : ℕ) → IfSome (account_with w first.joined) (λ r. BeginsWith log.entries r.seen)
  pub fronts : AreOfLog log.entries first.joined
