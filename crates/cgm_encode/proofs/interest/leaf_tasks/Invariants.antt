use Rattle.std.proofs.Common.{◌≡◌}
use Rattle.std.specs.Prelude.{filter}
use Rattle.std.specs.List.{range_with_len}
use Rattle.cgm_model.specs.Model.{lists_of}
use Rattle.cgm_model.specs.Leaves.{is_leaf_task}
use Rattle.cgm_encode.proofs.interest.leaf_tasks.Given as goal

abbrev pub invariant-loop-element : goal.invariant-loop-element
invariant-loop-element l =
    l.tasks.items ≡ filter (is_leaf_task (lists_of l.model)) (range_with_len 0 l.element)
