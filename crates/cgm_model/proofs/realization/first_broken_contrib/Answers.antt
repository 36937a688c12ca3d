use Rattle.std.proofs.Common.{get_or}
use Rattle.std.proofs.lemmas.Bool.{iff_false}
use Rattle.std.proofs.lemmas.List.{get_or_default}
use Rattle.cgm_model.specs.declared.lists.Edge.{Edge}
use Rattle.cgm_model.specs.Realization.{KeepsContrib}
use Rattle.cgm_model.proofs.Places.{Settles-more, first_from_settled}
use Rattle.cgm_model.proofs.realization.first_broken_contrib.Goals as goal

pub returns-then-not-keeps_contrib : goal.returns-then-not-keeps_contrib
returns-then-not-keeps_contrib c =
    let items = c.as_slice-e-items.result.now in
    let x : Edge = get_or items c.loop-number.number (record { from = 0; to = 0 }) in
    let at = get_or_default items c.loop-number.number (record { from = 0; to = 0 }) x c.loop-number-test.true in
    first_from_settled (KeepsContrib c.args.assignment.now) c.args.model.now.contribs items c.loop-number.number x c.as_slice-e-items.ensures c.loop-number-test.true at (iff_false c.keeps_contrib.ensures c.if-not-keeps_contrib.true) c.loop-number.invariant

pub loop-number-preserved : goal.loop-number-preserved
loop-number-preserved c =
    let items = c.as_slice-e-items.result.now in
    let x : Edge = get_or items c.loop-number.number (record { from = 0; to = 0 }) in
    let at = get_or_default items c.loop-number.number (record { from = 0; to = 0 }) x c.loop-number-test.true in
    Settles-more (KeepsContrib c.args.assignment.now) c.args.model.now.contribs items c.loop-number.number x c.as_slice-e-items.ensures c.loop-number-test.true at (c.keeps_contrib.ensures.0 c.if-not-keeps_contrib.false) c.loop-number.invariant
