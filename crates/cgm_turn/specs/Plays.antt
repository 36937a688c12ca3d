-- What each step does to the view of the pass that makes it, by the kinds of step.
use Rattle.std.specs.Prelude.{◌≡◌, ◌≢◌, true, false, nat_le, if◌then◌else◌, ℕ, ◌+◌, ◌-◌, List, [], ◌∷◌, ◌++◌, length, drop, Option, Some, None}
use Rattle.atomic_table.specs.Table.{Me, Step}
use Rattle.cgm_atom.specs.declared.entries.Entry.{Entry}
use Rattle.cgm_atom.specs.Instance.{Instance}
use Rattle.cgm_log.specs.LogBook.{LogBook}
use Rattle.cgm_turn.specs.declared.views.Joined.{Joined}
use Rattle.cgm_turn.specs.declared.views.View.{View}
use Rattle.cgm_turn.specs.Entries.{BeginsWith, made_by}

-- how many entries the log had that a pass holds
abbrev pub count_held : Option (List Entry) → ℕ
count_held None = 0
count_held (Some entries) = length entries

-- the view after its turn
abbrev pub put_back : View → List Entry → List Entry → View
put_back v seen landed = record v { seen = seen; landed = landed; ticket = None; held = None }

-- with the log that goes home
abbrev pub handed_on : View → LogBook → View
handed_on v log = put_back v log.entries (v.landed ++ drop (count_held v.held) log.entries)

-- with the log as it was found
abbrev pub handed_back : View → View
handed_back v = put_back v v.seen v.landed

-- the seat, once the slot that it took last went home
abbrev pub slot_home : View → Option LogBook → List (ℕ × Option LogBook) → Me (Option LogBook) View
slot_home v None rest = (v, rest)
slot_home v (Some log) rest = (handed_on v log, rest)

abbrev pub gone_home : View → List (ℕ × Option LogBook) → Me (Option LogBook) View
gone_home v [] = (v, [])
gone_home v (x ∷ rest) = slot_home v x.1 rest

abbrev pub HandsOn : Step (Option LogBook) → Me (Option LogBook) View → ℕ → Me (Option LogBook) View → Type 0
HandsOn st m found m' = m' ≡ gone_home m.0 m.1

abbrev pub gone_back : View → List (ℕ × Option LogBook) → Me (Option LogBook) View
gone_back v [] = (v, [])
gone_back v (x ∷ rest) = (handed_back v, rest)

abbrev pub HandsBack : Step (Option LogBook) → Me (Option LogBook) View → ℕ → Me (Option LogBook) View → Type 0
HandsBack st m found m' = m' ≡ gone_back m.0 m.1

-- ---- a ticket is drawn

abbrev pub drawing : View → ℕ → View
drawing v t = record v { ticket = Some t; begun = v.begun + 1 }

abbrev pub Draws : Step (Option LogBook) → Me (Option LogBook) View → ℕ → Me (Option LogBook) View → Type 0
Draws st m found m' = m' ≡ (drawing m.0 found, m.1)

-- ---- the turn comes

abbrev pub holding : View → List Entry → View
holding v entries = record v { held = Some entries }

-- the log is that of the pass's problem, begins with what it was told, and has its entries
pub record IsFoundBy (v : View) (log : LogBook) : Type 0 where
  pub problem : v.problem ≡ log.problem
  pub seen : BeginsWith log.entries v.seen
  pub landed : made_by v.number log.entries ≡ v.landed

abbrev pub TurnComes : ℕ → Step (Option LogBook) → Me (Option LogBook) View → ℕ → Me (Option LogBook) View → Type 0
TurnComes t st m found m' =
    (t ≡ found → (log : LogBook) × IsFoundBy m.0 log × (m' ≡ (holding m.0 log.entries, (0, Some log) ∷ m.1)))
    × (t ≢ found → m' ≡ m)

abbrev pub TurnComesAt : Option ℕ → Step (Option LogBook) → Me (Option LogBook) View → ℕ → Me (Option LogBook) View → Type 0
TurnComesAt None st m found m' = Unit {0}
TurnComesAt (Some t) st m found m' = TurnComes t st m found m'

abbrev pub Waits : Step (Option LogBook) → Me (Option LogBook) View → ℕ → Me (Option LogBook) View → Type 0
Waits st m found m' = TurnComesAt m.0.ticket st m found m'

-- ---- split and join

abbrev pub splitting : View → View
splitting v = record v { splits = v.splits + 1; out = v.out + 1 }

abbrev pub split_off : View → View
split_off v =
    record {
      is_spent = false;
      number = v.splits + 1;
      problem = v.problem;
      seen = v.seen;
      landed = [];
      begun = 0;
      begun_by_joined = 0;
      members = 1;
      ticket = None;
      held = None;
      splits = 0;
      out = 0;
      joined = [];
    }

abbrev pub longer : List Entry → List Entry → List Entry
longer xs ys = if nat_le (length xs) (length ys) then ys else xs

-- what the first pass keeps of one that is joined to it
abbrev pub account : View → View → Joined
account v w = record { number = w.number; seen = w.seen; before = v.seen; landed = w.landed }

abbrev pub joining : View → View → View
joining v w =
    record v {
      seen = longer v.seen w.seen;
      begun_by_joined = v.begun_by_joined + (w.begun + w.begun_by_joined);
      members = v.members + w.members;
      out = v.out - 1;
      joined = account v w ∷ v.joined;
    }

abbrev pub no_problem : Instance
no_problem = record { bounds = record { lower = []; upper = [] }; clauses = []; rows = []; objectives = [] }

abbrev pub spent_view : View
spent_view =
    record {
      is_spent = true;
      number = 0;
      problem = no_problem;
      seen = [];
      landed = [];
      begun = 0;
      begun_by_joined = 0;
      members = 0;
      ticket = None;
      held = None;
      splits = 0;
      out = 0;
      joined = [];
    }
