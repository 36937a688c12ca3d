-- What a well-formed model says of the names that its sums, preferences and objectives use.
use Rattle.std.proofs.Common.{◌<◌, length, get_or, All}
use Rattle.std.proofs.Math.Logic.{∥∥₁_elim}
use Rattle.std.proofs.Props.{props}
use Rattle.cgm_formula.specs.declared.formula.Truth.{Truth}
use Rattle.cgm_formula.specs.declared.formula.Truth.TheVariants.{Element, Refinement}
use Rattle.cgm_model.specs.declared.lists.Lists.{Lists}
use Rattle.cgm_model.specs.declared.lists.Quantity.{Quantity}
use Rattle.cgm_model.specs.declared.lists.Quantity.TheVariants as quantities
use Rattle.cgm_model.specs.Formulas.{IsKnownTruth}
use Rattle.cgm_model.specs.Statement.{IsKnownQuantity}
use Rattle.cgm_model.specs.WellFormed.{IsWellFormedModel}

truth_prop : (m : Lists) (t : Truth) → IsProp (IsKnownTruth m t)
truth_prop m (Element k) = hlevel props
truth_prop m (Refinement k) = hlevel props

quantity_prop : (m : Lists) (q : Quantity) → IsProp (IsKnownQuantity m q)
quantity_prop m (quantities.Var k) = hlevel props
quantity_prop m (quantities.Sum k) = hlevel props
quantity_prop m quantities.Weight = hlevel props
quantity_prop m quantities.UnsatPrefs = hlevel props
quantity_prop m quantities.UnsatReqs = hlevel props
quantity_prop m quantities.SatTasks = hlevel props
quantity_prop m quantities.Familiarity = hlevel props
quantity_prop m quantities.Effort = hlevel props

pub record HasKnownParts (m : Lists) : Type 0 where
  pub values : All (λ v. IsKnownTruth m v.of) m.values
  pub penalties : All (λ w. w.element < length m.elements) m.penalties
  pub rewards : All (λ w. w.element < length m.elements) m.rewards
  pub better : All (λ p. IsKnownTruth m p.better) m.prefers
  pub worse : All (λ p. IsKnownTruth m p.worse) m.prefers
  pub interests : All (λ k. k < length m.elements) m.interests
  pub objectives : All (λ o. IsKnownQuantity m o.of) m.objectives

pub known_parts : (m : Lists) → ∥ IsWellFormedModel m ∥₁ → HasKnownParts m
known_parts m h = record {
  values = λ k d l. ∥∥₁_elim h (truth_prop m (get_or m.values k d).of) (λ w. (w.values k d l).of);
  penalties = λ k d l. ∥∥₁_elim h (hlevel props) (λ w. (w.penalties k d l).element);
  rewards = λ k d l. ∥∥₁_elim h (hlevel props) (λ w. (w.rewards k d l).element);
  better = λ k d l. ∥∥₁_elim h (truth_prop m (get_or m.prefers k d).better) (λ w. (w.prefers k d l).0);
  worse = λ k d l. ∥∥₁_elim h (truth_prop m (get_or m.prefers k d).worse) (λ w. (w.prefers k d l).1);
  interests = λ k d l. ∥∥₁_elim h (hlevel props) (λ w. w.interests k d l);
  objectives = λ k d l. ∥∥₁_elim h (quantity_prop m (get_or m.objectives k d).of) (λ w. w.objectives k d l);
}

-- the sums of value lines are there
pub known_sums : (m : Lists) → ∥ IsWellFormedModel m ∥₁ → All (λ v. v.sum < length m.sums) m.values
known_sums m h k d l = ∥∥₁_elim h (hlevel props) (λ w. (w.values k d l).sum)
