-- The entries of one worker in a log, and fronts of a log.
use Rattle.std.specs.Prelude.{◌≡◌, ℕ, List, [], ◌∷◌, ◌++◌, ◌==◌}
use Rattle.std.specs.List.{filter}
use Rattle.cgm_atom.specs.declared.entries.Entry.{Entry}
use Rattle.cgm_log.specs.Makers.{maker}
use Rattle.cgm_turn.specs.declared.views.Joined.{Joined}

-- the entries of worker w, in their order
abbrev pub made_by : ℕ → List Entry → List Entry
made_by w entries = filter (λ e. maker e == w) entries

-- the log begins with these entries
abbrev pub BeginsWith : List Entry → List Entry → Type 0
BeginsWith log front = (more : List Entry) × (log ≡ front ++ more)

-- what each joined pass had seen, and what the first had seen when it was joined, is a front of the log
abbrev pub AreOfLog : List Entry → List Joined → Type 0
AreOfLog log [] = Unit {0}
AreOfLog log (r ∷ others) = (BeginsWith log r.seen × BeginsWith log r.before) × AreOfLog log others
