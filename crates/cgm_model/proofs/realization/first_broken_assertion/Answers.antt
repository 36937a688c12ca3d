use Rattle.std.proofs.Common.{false, get_or}
use Rattle.std.proofs.lemmas.Bool.{iff_false}
use Rattle.std.proofs.lemmas.List.{get_or_default}
use Rattle.cgm_model.specs.declared.lists.Assertion.{Assertion}
use Rattle.cgm_model.specs.Realization.{KeepsAssertion}
use Rattle.cgm_model.proofs.Places.{Settles-more, first_from_settled}
use Rattle.cgm_model.proofs.realization.first_broken_assertion.Goals as goal

pub returns-then-not-keeps_assertion : goal.returns-then-not-keeps_assertion
returns-then-not-keeps_assertion c =
    let items = c.as_slice-assertion-items.result.now in
    let x : Assertion = get_or items c.loop-number.number (record { element = 0; truth = false }) in
    let at = get_or_default items c.loop-number.number (record { element = 0; truth = false }) x c.loop-number-test.true in
    first_from_settled (KeepsAssertion c.args.assignment.now) c.args.model.now.asserts items c.loop-number.number x c.as_slice-assertion-items.ensures c.loop-number-test.true at (iff_false c.keeps_assertion.ensures c.if-not-keeps_assertion.true) c.loop-number.invariant

pub loop-number-preserved : goal.loop-number-preserved
loop-number-preserved c =
    let items = c.as_slice-assertion-items.result.now in
    let x : Assertion = get_or items c.loop-number.number (record { element = 0; truth = false }) in
    let at = get_or_default items c.loop-number.number (record { element = 0; truth = false }) x c.loop-number-test.true in
    Settles-more (KeepsAssertion c.args.assignment.now) c.args.model.now.asserts items c.loop-number.number x c.as_slice-assertion-items.ensures c.loop-number-test.true at (c.keeps_assertion.ensures.0 c.if-not-keeps_assertion.false) c.loop-number.invariant
