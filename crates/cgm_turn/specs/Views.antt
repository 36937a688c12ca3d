-- What passes know: the view of each, and what its fields say.
use Rattle.std.specs.Prelude.{◌≡◌, false, ℕ, ◌==◌, List, [], ◌∷◌, ◌++◌, if◌then◌else◌, IfSome, Option, Some, None}
use Rattle.std.specs.List.{All}
use Rattle.std.specs.Option.{option_map_or}
use Rattle.atomic_table.specs.Table.{Me}
use Rattle.cgm_atom.specs.declared.entries.Entry.{Entry}
use Rattle.cgm_atom.specs.Instance.{Instance}
use Rattle.cgm_log.specs.LogBook.{LogBook}
use Rattle.cgm_log.specs.Makers.{maker}
use Rattle.cgm_turn.specs.declared.views.Joined.{Joined}
use Rattle.cgm_turn.specs.declared.views.View.{View}
use Rattle.cgm_turn.specs.Entries.{AreOfLog, BeginsWith, made_by}

-- the first pass, before all splits
abbrev pub newcomer : Instance → View
newcomer p =
    record {
      is_spent = false;
      number = 0;
      problem = p;
      seen = [];
      landed = [];
      begun = 0;
      begun_by_joined = 0;
      members = 1;
      ticket = None;
      held = None;
      splits = 0;
      out = 0;
      joined = [];
    }

-- what the first pass keeps of the joined pass with this number
abbrev pub account_with : ℕ → List Joined → Option Joined
account_with w [] = None
account_with w (r ∷ others) = if r.number == w then Some r else account_with w others

-- what a joined pass landed
abbrev pub landed_of : Joined → List Entry
landed_of r = r.landed

-- what pass w landed, as the first pass knows it
abbrev pub landed_by : View → ℕ → List Entry
landed_by v w = if w == v.number then v.landed else option_map_or landed_of (account_with w v.joined) []

-- the seat took the log out of the slot, and this log is to go back: what it found, and then entries of its own
pub record HasTurn (me : Me (Option LogBook) View) (log : LogBook) : Type 0 where
  pub old : List Entry
  pub added : List Entry
  pub slot : Option LogBook
  pub held : me.0.held ≡ Some old
  pub only : me.1 ≡ (0, slot) ∷ []
  pub grown : log.entries ≡ old ++ added
  pub own : All (λ e. maker e ≡ me.0.number) added
  pub problem : log.problem ≡ me.0.problem

-- the log at the end, as the first pass knows it: each pass's entries, in its order, each once
pub record IsLogAtEnd (v : View) (log : LogBook) : Type 0 where
  pub problem : log.problem ≡ v.problem
  pub seen : BeginsWith log.entries v.seen
  pub made : (w : ℕ) → made_by w log.entries ≡ landed_by v w
  pub seen_by_joined : (w : ℕ) → IfSome (account_with w v.joined) (λ r. BeginsWith log.entries r.seen)
  pub fronts : AreOfLog log.entries v.joined

-- the seat took the log out of the slot, and it goes back as it was found
pub record HasTurnUnused (me : Me (Option LogBook) View) (log : LogBook) : Type 0 where
  pub old : List Entry
  pub slot : Option LogBook
  pub held : me.0.held ≡ Some old
  pub only : me.1 ≡ (0, slot) ∷ []
  pub same : log.entries ≡ old
  pub problem : log.problem ≡ me.0.problem
  pub begins : BeginsWith log.entries me.0.seen
