-- The rule of the table: what holds of its words, its slot and the views of all passes, between any two steps. Words are parameters of it, so that a further word is one more of them.
use Rattle.std.specs.Prelude.{◌≡◌, Bool, true, false, ℕ, ◌+◌, ◌*◌, ◌^◌, ◌<◌, ◌≤◌, List, [], ◌∷◌, length, slice_index, cond, IfSome, IsSome, Option, Some, None}
use mathlib.Core.Option.{some}
use mathlib.Core.Option as option
use lib.ListN.{get_elem?}
use Rattle.atomic_table.specs.Seated.{TableId}
use Rattle.atomic_table.specs.Table.{State}
use Rattle.cgm_atom.specs.declared.entries.Entry.{Entry}
use Rattle.cgm_atom.specs.Acceptance.{IsAccepted}
use Rattle.cgm_log.specs.LogBook.{LogBook}
use Rattle.cgm_turn.specs.declared.views.Joined.{Joined}
use Rattle.cgm_turn.specs.declared.views.View.{View}
use Rattle.cgm_turn.specs.Entries.{AreOfLog, BeginsWith, made_by}
use Rattle.cgm_turn.specs.Views.{account_with}

-- the sum over a list
abbrev pub total_of : {A : Type 0} → (A → ℕ) → List A → ℕ
total_of g [] = 0
total_of g (x ∷ xs) = g x + total_of g xs

-- a pass that wasn't joined, of the log as it stands and the tickets that are served and next: its number is its place
-- among the views, it was told a front of the log, what it landed is its entries there, and only whose ticket is served
-- holds the log
pub record IsLive (serving next : ℕ) (log : LogBook) (joined : List Joined) (j : ℕ) (v : View) : Type 0 where
  pub number : v.number ≡ j
  pub problem : v.problem ≡ log.problem
  pub seen : BeginsWith log.entries v.seen
  pub landed : made_by j log.entries ≡ v.landed
  pub unjoined : account_with j joined ≡ None
  pub waits : IfSome v.ticket (λ t. (serving ≤ t) × (t < next))
  pub bounded : v.begun_by_joined + 2 ^ 59 ≤ v.members * 2 ^ 59
  pub begun : v.begun ≤ 2 ^ 59
  pub holds : IfSome v.held (λ entries. (v.ticket ≡ Some serving) × (entries ≡ log.entries))

-- one that was joined: the first pass keeps an account of it
pub record IsSpent (joined : List Joined) (j : ℕ) (v : View) : Type 0 where
  pub ticket : v.ticket ≡ None
  pub held : v.held ≡ None
  pub account : IsSome (account_with j joined)

-- what holds of a spent view, or of one that isn't
abbrev pub BySpent : Bool → Type 0 → Type 0 → Type 0
BySpent true spent live = spent
BySpent false spent live = live

abbrev pub KnowsTurn : ℕ → ℕ → LogBook → List Joined → ℕ → View → Type 0
KnowsTurn serving next log joined j v =
    BySpent v.is_spent (IsSpent joined j v) (IsLive serving next log joined j v)

-- what is kept of a joined pass is what the log has of it
pub record IsAccountOf (log : LogBook) (w : ℕ) (r : Joined) : Type 0 where
  pub seen : BeginsWith log.entries r.seen
  pub landed : made_by w log.entries ≡ r.landed

abbrev pub living : View → ℕ
living v = cond v.is_spent 0 1

-- the trades that a pass and those joined to it began
abbrev pub trades_of : View → ℕ
trades_of v = v.begun + v.begun_by_joined

-- how many a pass and those joined to it are
abbrev pub members_of : View → ℕ
members_of v = v.members

-- the first pass, with what it keeps of the joined ones and how many are out
pub record Leads (views : List View) (joined : List Joined) (out splits : ℕ) : Type 0 where
  pub first : View
  pub place : get_elem? views 0 ≡ some first
  pub lives : first.is_spent ≡ false
  pub joined_is : first.joined ≡ joined
  pub out_is : first.out ≡ out
  pub splits_is : first.splits ≡ splits

-- no two joined passes have one number
abbrev pub AreNumbersApart : List Joined → Type 0
AreNumbersApart [] = Unit {0}
AreNumbersApart (r ∷ others) = (account_with r.number others ≡ None) × AreNumbersApart others

-- how many tickets a pass has
abbrev pub count_ticket : Option ℕ → ℕ
count_ticket None = 0
count_ticket (Some t) = 1

abbrev pub tickets_of : View → ℕ
tickets_of v = count_ticket v.ticket

-- where the pass holds the log, the slot is empty
abbrev pub IsAway : List (option.Option (Option LogBook)) → View → Type 0
IsAway homes v = (entries : List Entry) → v.held ≡ Some entries → get_elem? homes 0 ≡ some option.none

abbrev pub NoneHolds : List View → Type 0
NoneHolds views = (j : ℕ) (v : View) → get_elem? views j ≡ some v → v.held ≡ None

-- no two passes have one ticket
abbrev pub AreTicketsApart : List View → Type 0
AreTicketsApart views =
    (j k : ℕ) (v w : View) (t : ℕ)
    → get_elem? views j ≡ some v
    → get_elem? views k ≡ some w
    → v.ticket ≡ Some t
    → w.ticket ≡ Some t
    → j ≡ k

-- no word wraps: the next ticket counts the trades that were begun, a pass and those joined to it began at most 2^59 for
-- each of them, and there are at most 16 passes. A spent view tells nothing, so a view carries the trades of those joined
-- to it, and how many they are with it
pub record AreTradesCounted (next : ℕ) (views : List View) : Type 0 where
  pub counted : total_of trades_of views ≡ next
  pub members : total_of members_of views ≡ length views
  pub bounded : (j : ℕ) (v : View) → get_elem? views j ≡ some v → trades_of v ≤ v.members * 2 ^ 59
  pub few : length views ≤ 16

-- the rule, of the ticket that is served, the next ticket, the slot and the views
pub record IsServed (serving next : ℕ) (homes : List (option.Option (Option LogBook))) (views : List View) : Type 0 where
  -- the log when it was last at home, what the first pass keeps of the joined ones, and how many are out
  pub log : LogBook
  pub joined : List Joined
  pub out : ℕ
  pub splits : ℕ
  pub slots : length homes ≡ 1
  -- the numbers of passes are given out in order
  pub leads : Leads views joined out splits
  pub given : length views ≡ splits + 1
  -- the log is in the slot exactly where no pass holds it
  pub home : NoneHolds views → get_elem? homes 0 ≡ some (some (Some log))
  pub away : (j : ℕ) (v : View) → get_elem? views j ≡ some v → IsAway homes v
  pub accepted : IsAccepted log.problem log.entries
  pub order : serving ≤ next
  -- the ticket that is served and the number of passes with a ticket add up to the next one
  pub drawn : serving + total_of tickets_of views ≡ next
  pub each : (j : ℕ) (v : View) → get_elem? views j ≡ some v → KnowsTurn serving next log joined j v
  pub apart : AreTicketsApart views
  pub accounts : (w : ℕ) → IfSome (account_with w joined) (IsAccountOf log w)
  pub fronts : AreOfLog log.entries joined
  pub distinct : AreNumbersApart joined
  -- numbers that weren't given out yet
  pub later : (w : ℕ) → length views ≤ w → (made_by w log.entries ≡ []) × (account_with w joined ≡ None)
  pub living : total_of living views ≡ out + 1
  pub trades : AreTradesCounted next views

-- the size of a turn's table: two words and one slot
abbrev pub HasTurnSize : TableId → Type 0
HasTurnSize table = (table.words ≡ 2) × (table.slots ≡ 1)

-- the rule, of a table with two words
pub record IsTurnTable (s : State (Option LogBook) View) : Type 0 where
  pub words : length s.words ≡ 2
  pub served : IsServed (slice_index s.words 0) (slice_index s.words 1) s.homes s.views
