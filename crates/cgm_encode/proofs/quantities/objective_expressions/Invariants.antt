use Rattle.std.proofs.Common.{◌≡◌, take, map}
use Rattle.cgm_model.specs.Model.{lists_of}
use Rattle.cgm_encode.specs.Building.{expression_of}
use Rattle.cgm_encode.specs.Quantities.{objective_total}
use Rattle.cgm_encode.specs.Variables.{first_objective}
use Rattle.cgm_encode.proofs.quantities.objective_expressions.Given as goal

abbrev pub invariant-loop-o : goal.invariant-loop-o
invariant-loop-o l =
    l.expressions.items ≡ map (λ o. expression_of (first_objective (lists_of l.model)) (objective_total (lists_of l.model) l.earlier.pairs o)) (take l.o-index l.objectives)
