use Rattle.std.proofs.Common.{◌≡◌, take, map}
use Rattle.cgm_model.specs.Model.{lists_of}
use Rattle.cgm_model.specs.TruthVariables.{truth_variables}
use Rattle.cgm_encode.specs.Building.{expression_of}
use Rattle.cgm_encode.specs.Quantities.{plain}
use Rattle.cgm_encode.proofs.sums.expressions_of.Given as goal

abbrev pub invariant-loop-shares : goal.invariant-loop-shares
invariant-loop-shares l =
    l.expressions.items ≡ map (λ shares. expression_of (truth_variables (lists_of l.model)) (plain shares)) (take l.shares-index l.lists)
