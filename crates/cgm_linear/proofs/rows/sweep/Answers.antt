use Rattle.std.proofs.Common.{◌≡◌, false, arith, ◌≤ℤ◌}
use Rattle.std.proofs.lemmas.Int.{ints}
use Rattle.cgm_atom.specs.Narrowing.{greatest_activity, is_claimed_in}
use Rattle.cgm_atom.proofs.RowTightening.{left_by_row-open}
use Rattle.cgm_trail.specs.TrailState.{box_of}
use Rattle.cgm_linear.proofs.rows.sweep.Goals as goal

pub returns-clause-answer : goal.returns-clause-answer
returns-clause-answer c =
    let b = box_of c.args.trail.now in
    let r = c.args.row.now in
    let most = c.greatest_activity-most.result in
    let sum : most ≡ greatest_activity b r.terms = rw (c.state.ensures.state, c.as_slice.ensures) at c.greatest_activity-most.ensures.value in
    let limit = c.requires.row.least_limit in
    let met : r.least ≤ℤ most = grind (arith, ints) in
    let unclaimed : is_claimed_in b r.guard ≡ false = cc (c.state-2.ensures.state, c.is_claimed.ensures, c.if-is_claimed.false) in
    let stays = left_by_row-open b r most sum met unclaimed in
    (stays, stays)
