use Rattle.std.proofs.Common.{length}
use Rattle.cgm_model.specs.Model.{lists_of}
use Rattle.cgm_model.specs.Leaves.{is_leaf_task}
use Rattle.cgm_encode.proofs.Kept.{numbers_kept, numbers_all}
use Rattle.cgm_encode.proofs.interest.leaf_tasks.Goals as goal

pub loop-element-preserved : goal.loop-element-preserved
loop-element-preserved c =
    numbers_kept (is_leaf_task (lists_of c.args.model.now)) c.loop-element.element c.loop-element.tasks.items c.push_leaf_task.new.tasks.items
    c.loop-element.invariant c.in_ok-push_leaf_task.ensures

pub returns : goal.returns
returns c =
    let m = lists_of c.args.model.now in
    numbers_all (is_leaf_task m) c.loop-element.element c.element_count-element-end.result (length m.elements) c.loop-element.tasks.items
    c.loop-element.auto.element-end c.loop-element-test.false c.element_count-element-end.ensures c.loop-element.invariant
