-- The seat of a worker at a log: what contracts see of its trader, and what trades keep of it.
use Rattle.std.specs.Prelude.{◌≡◌, ℕ, ◌+◌, ◌≤◌, List, Option}
use Rattle.cgm_atom.specs.declared.entries.Entry.{Entry}
use Rattle.cgm_atom.specs.Instance.{Instance}
use Rattle.cgm_log.specs.Makers.{AreMadeBy}

pub record Seat : Type 0 where
  -- the problem of the log
  pub problem : Instance
  -- the entries that were seen, which are a front of the log
  pub told : List Entry
  -- the entries that it landed, in order
  pub own : List Entry
  -- the number of the worker, where the trader has one
  pub number : Option ℕ
  -- how many trades may still be made
  pub trades : ℕ

-- of the trades that may still be made, at most n were made
abbrev pub HasTradedAtMost : ℕ → ℕ → ℕ → Type 0
HasTradedAtMost n before after = (after ≤ before) × (before ≤ after + n)

-- the same problem and number, and at most n of the trades were made
pub record KeepsSeat (n : ℕ) (old new : Seat) : Type 0 where
  pub problem : new.problem ≡ old.problem
  pub number : new.number ≡ old.number
  pub trades : HasTradedAtMost n old.trades new.trades

-- where each entry that was landed has the worker's number, each that is landed then has it
abbrev pub KeepsOwn : ℕ → Seat → Seat → Type 0
KeepsOwn worker old new = (n : ℕ) → worker ≡ n → AreMadeBy n old.own → AreMadeBy n new.own
