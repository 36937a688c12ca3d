use Rattle.std.proofs.lemmas.Bool.{iff_false}
use Rattle.cgm_model.specs.Model.{lists_of}
use Rattle.cgm_model.specs.Realization.{KeepsElement}
use Rattle.cgm_model.proofs.Places.{Settles-more, first_from_settled}
use Rattle.cgm_model.proofs.realization.first_broken_element.Goals as goal

pub returns-then-not-keeps_element : goal.returns-then-not-keeps_element
returns-then-not-keeps_element c =
    first_from_settled (KeepsElement (lists_of c.args.model.now) c.args.assignment.now) c.args.model.now.elements c.as_slice-e-items.result.now c.loop-number.number c.e-item.result c.as_slice-e-items.ensures c.loop-number-test.true c.e-item.is (iff_false c.keeps_element.ensures c.if-not-keeps_element.true) c.loop-number.invariant

pub loop-number-preserved : goal.loop-number-preserved
loop-number-preserved c =
    let h = c.keeps_element.ensures in
    Settles-more (KeepsElement (lists_of c.args.model.now) c.args.assignment.now) c.args.model.now.elements c.as_slice-e-items.result.now c.loop-number.number c.e-item.result c.as_slice-e-items.ensures c.loop-number-test.true c.e-item.is (h.0 c.if-not-keeps_element.false) c.loop-number.invariant
