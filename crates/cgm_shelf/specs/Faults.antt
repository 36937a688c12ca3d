-- When a count of faults has risen, and that a call which answers a fault has raised it.
use Rattle.std.specs.Prelude.{◌≡◌, ℕ, ◌+◌, ◌-◌, ◌^◌, ◌≤◌, min, Result, OnErr, MatchResult}

-- the number after this one, up to the last one of its type
abbrev pub next : ℕ → ℕ
next count = min (count + 1) (2 ^ 64 - 1)

-- the count has risen, or stands at the last value of its type
abbrev pub Rose : ℕ → ℕ → Type 0
Rose before now = next before ≤ now

-- the count doesn't fall in the call, and the call fails only where it rose
pub record HasCause {T E : Type 0} (before now : ℕ) (result : Result T E) : Type 0 where
  pub later : before ≤ now
  pub failed : OnErr result (Rose before now)

-- a fault raises the count by one, up to its last value, and an answer leaves it
abbrev pub CountsFault : {T E : Type 0} → ℕ → ℕ → Result T E → Type 0
CountsFault before now result = MatchResult result (λ _. now ≡ before) (λ _. now ≡ next before)
