use Rattle.std.proofs.Common.{length}
use Rattle.cgm_model.specs.Model.{lists_of}
use Rattle.cgm_obj.specs.Counts.{is_free_requirement}
use Rattle.cgm_encode.proofs.Kept.{numbers_kept, numbers_all}
use Rattle.cgm_encode.proofs.interest.free_requirements.Goals as goal

pub loop-element-preserved : goal.loop-element-preserved
loop-element-preserved c =
    numbers_kept (is_free_requirement (lists_of c.args.model.now)) c.loop-element.element c.loop-element.requirements.items c.push_free_requirement.new.requirements.items
    c.loop-element.invariant c.in_ok-push_free_requirement.ensures

pub returns : goal.returns
returns c =
    let m = lists_of c.args.model.now in
    numbers_all (is_free_requirement m) c.loop-element.element c.element_count-element-end.result (length m.elements) c.loop-element.requirements.items
    c.loop-element.auto.element-end c.loop-element-test.false c.element_count-element-end.ensures c.loop-element.invariant
