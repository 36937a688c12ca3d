use Rattle.std.proofs.Common.{◌≡◌}
use Rattle.std.specs.Prelude.{filter}
use Rattle.std.specs.List.{range_with_len}
use Rattle.cgm_model.specs.Model.{lists_of}
use Rattle.cgm_obj.specs.Counts.{is_free_requirement}
use Rattle.cgm_encode.proofs.interest.free_requirements.Given as goal

abbrev pub invariant-loop-element : goal.invariant-loop-element
invariant-loop-element l =
    l.requirements.items ≡ filter (is_free_requirement (lists_of l.model)) (range_with_len 0 l.element)
