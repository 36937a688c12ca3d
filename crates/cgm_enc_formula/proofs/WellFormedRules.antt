-- What a well-formed model says of its rules.
use Rattle.std.proofs.Common.{◌≤◌}
use Rattle.std.proofs.Math.Logic.{∥∥₁_elim}
use Rattle.std.proofs.Props.{props}
use Rattle.std.specs.List.{All}
use Rattle.cgm_base.specs.declared.limit.Which.TheVariants as limits
use Rattle.cgm_base.specs.Words.{limit_number}
use Rattle.cgm_formula.specs.declared.formula.Number.{Number}
use Rattle.cgm_formula.specs.declared.formula.Number.TheVariants as number
use Rattle.cgm_formula.specs.declared.formula.Truth.{Truth}
use Rattle.cgm_formula.specs.declared.formula.Truth.TheVariants as truth
use Rattle.cgm_model.specs.declared.lists.Lists.{Lists}
use Rattle.cgm_model.specs.Formulas.{IsKnownNumber, IsKnownTruth, node_total}
use Rattle.cgm_model.specs.WellFormed.{IsRule, IsWellFormedModel}

truth_is_one : (m : Lists) (t : Truth) → IsProp (IsKnownTruth m t)
truth_is_one m (truth.Element k) = hlevel props
truth_is_one m (truth.Refinement k) = hlevel props

number_is_one : (m : Lists) (x : Number) → IsProp (IsKnownNumber m x)
number_is_one m (number.Var k) = hlevel props
number_is_one m (number.Sum k) = hlevel props

pub each_rule : (m : Lists) → ∥ IsWellFormedModel m ∥₁ → All (IsRule m) m.rules
each_rule m well = ∥∥₁_elim well (hlevel (props, truth_is_one m, number_is_one m)) (λ w. w.rules)

pub few_nodes : (m : Lists) → ∥ IsWellFormedModel m ∥₁ → node_total m.rules ≤ limit_number limits.FormulaNodes
few_nodes m well = ∥∥₁_elim well (hlevel props) (λ w. w.limits.formula_nodes)
