-- What a well-formed model says of the sizes of its numbers and of how many statements it has.
use Rattle.std.proofs.Common.{◌≤◌, length, All}
use Rattle.std.proofs.Math.Logic.{∥∥₁_elim}
use Rattle.std.proofs.Props.{props}
use Rattle.std.specs.Prelude.{unsigned_abs, ◌≤ℤ◌}
use Rattle.cgm_model.specs.declared.lists.Lists.{Lists}
use Rattle.cgm_model.specs.Lists.{statement_count}
use Rattle.cgm_model.specs.WellFormed.{IsWellFormedModel}

pub record HasKnownSizes (m : Lists) : Type 0 where
  pub values : All (λ v. unsigned_abs v.k ≤ 1000000) m.values
  pub penalties : All (λ w. unsigned_abs w.k ≤ 1000000) m.penalties
  pub rewards : All (λ w. unsigned_abs w.k ≤ 1000000) m.rewards
  pub low : All (λ v. unsigned_abs v.lo ≤ 1000000000) m.vars
  pub high : All (λ v. unsigned_abs v.hi ≤ 1000000000) m.vars
  pub ordered : All (λ v. v.lo ≤ℤ v.hi) m.vars
  pub statements : statement_count m ≤ 1000000
  pub objectives : length m.objectives ≤ 8

sizes_known : (m : Lists) → IsWellFormedModel m → HasKnownSizes m
sizes_known m w = record {
  values = λ k d l. (w.values k d l).small;
  penalties = λ k d l. (w.penalties k d l).small;
  rewards = λ k d l. (w.rewards k d l).small;
  low = λ k d l. (w.vars k d l).low;
  high = λ k d l. (w.vars k d l).high;
  ordered = λ k d l. (w.vars k d l).ordered;
  statements = w.limits.statements;
  objectives = w.limits.objectives;
}

pub known_sizes : (m : Lists) → ∥ IsWellFormedModel m ∥₁ → HasKnownSizes m
known_sizes m h = ∥∥₁_elim h (hlevel props) (sizes_known m)
