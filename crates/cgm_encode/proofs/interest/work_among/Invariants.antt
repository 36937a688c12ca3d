use Rattle.std.proofs.Common.{◌≡◌, take}
use Rattle.std.specs.Prelude.{filter}
use Rattle.cgm_model.specs.Model.{lists_of}
use Rattle.cgm_encode.specs.Quantities.{is_possible_work}
use Rattle.cgm_encode.proofs.interest.work_among.Given as goal

abbrev pub invariant-loop-element : goal.invariant-loop-element
invariant-loop-element l =
    l.tasks.items ≡ filter (is_possible_work (lists_of l.model) l.earlier.pairs) (take l.element-index l.elements)
