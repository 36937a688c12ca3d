use Rattle.std.proofs.Common.{get_or}
use Rattle.std.proofs.lemmas.Bool.{iff_false}
use Rattle.std.proofs.lemmas.List.{get_or_default}
use Rattle.cgm_model.specs.declared.lists.Edge.{Edge}
use Rattle.cgm_model.specs.Realization.{KeepsConflict}
use Rattle.cgm_model.proofs.Places.{Settles-more, first_from_settled}
use Rattle.cgm_model.proofs.realization.first_broken_conflict.Goals as goal

pub returns-then-not-keeps_conflict : goal.returns-then-not-keeps_conflict
returns-then-not-keeps_conflict c =
    let items = c.as_slice-e-items.result.now in
    let x : Edge = get_or items c.loop-number.number (record { from = 0; to = 0 }) in
    let at = get_or_default items c.loop-number.number (record { from = 0; to = 0 }) x c.loop-number-test.true in
    first_from_settled (KeepsConflict c.args.assignment.now) c.args.model.now.conflicts items c.loop-number.number x c.as_slice-e-items.ensures c.loop-number-test.true at (iff_false c.keeps_conflict.ensures c.if-not-keeps_conflict.true) c.loop-number.invariant

pub loop-number-preserved : goal.loop-number-preserved
loop-number-preserved c =
    let items = c.as_slice-e-items.result.now in
    let x : Edge = get_or items c.loop-number.number (record { from = 0; to = 0 }) in
    let at = get_or_default items c.loop-number.number (record { from = 0; to = 0 }) x c.loop-number-test.true in
    Settles-more (KeepsConflict c.args.assignment.now) c.args.model.now.conflicts items c.loop-number.number x c.as_slice-e-items.ensures c.loop-number-test.true at (c.keeps_conflict.ensures.0 c.if-not-keeps_conflict.false) c.loop-number.invariant
