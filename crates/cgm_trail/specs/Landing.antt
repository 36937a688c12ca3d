-- Landing: hints to lemmas that had no place yet name the places where these landed, and nothing else changes.
use Rattle.std.specs.Prelude.{ℕ, ◌+◌, ◌-◌, ◌^◌, ◌<◌, ◌≤◌, List, map}
use Rattle.std.specs.List.{All}
use Rattle.cgm_atom.specs.declared.entries.Hint.{Hint}
use Rattle.cgm_atom.specs.declared.entries.Hint.TheVariants as hint
use Rattle.cgm_trail.specs.declared.changes.Change.{Change}
use Rattle.cgm_trail.specs.declared.changes.Reason.{Reason}
use Rattle.cgm_trail.specs.declared.changes.Reason.TheVariants.{Decision, By}
use Rattle.cgm_trail.specs.TrailState.{TrailState}

-- the first of the lemmas, which count from 1, landed at place `first`
abbrev pub hint_landed : ℕ → Hint → Hint
hint_landed first (hint.Clause n) = hint.Clause n
hint_landed first (hint.Row n) = hint.Row n
hint_landed first (hint.Entry place) = hint.Entry place
hint_landed first (hint.Own i) = hint.Entry (first + i - 1)
hint_landed first (hint.Cut best part) = hint.Cut best part

abbrev pub landed_reason : ℕ → Reason → Reason
landed_reason first Decision = Decision
landed_reason first (By h) = By (hint_landed first h)

abbrev pub landed_change : ℕ → Change → Change
landed_change first c = record c { reason = landed_reason first c.reason }

abbrev pub landed_trail : ℕ → TrailState → TrailState
landed_trail first t = record t { changes = map (landed_change first) t.changes }

-- the lemma counts from 1, and its place fits 64 bits
abbrev pub CanLand : ℕ → Hint → Type 0
CanLand first (hint.Clause n) = Unit {0}
CanLand first (hint.Row n) = Unit {0}
CanLand first (hint.Entry place) = Unit {0}
CanLand first (hint.Own i) = (1 ≤ i) × (first + i - 1 < 2 ^ 64)
CanLand first (hint.Cut best part) = Unit {0}

abbrev pub CanReasonLand : ℕ → Reason → Type 0
CanReasonLand first Decision = Unit {0}
CanReasonLand first (By h) = CanLand first h

abbrev pub CanChangesLand : ℕ → List Change → Type 0
CanChangesLand first changes = All (λ c. CanReasonLand first c.reason) changes
