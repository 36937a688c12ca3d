use Rattle.std.proofs.Common.{◌≡◌, take, map, cond}
use Rattle.std.specs.Prelude.{negsuc, pos}
use Rattle.cgm_model.specs.Model.{lists_of}
use Rattle.cgm_encode.specs.Quantities.{was_true_before}
use Rattle.cgm_encode.proofs.quantities.changes.Given as goal

abbrev pub invariant-loop-element : goal.invariant-loop-element
invariant-loop-element l =
    l.shares.items ≡ map (λ x. (cond (was_true_before (lists_of l.model) l.earlier.pairs x) (negsuc 0) (pos 1), x)) (take l.element-index l.elements)
