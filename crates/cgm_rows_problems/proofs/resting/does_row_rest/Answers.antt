use Rattle.std.proofs.lemmas.Option.{get_or_from_slice_get}
use Rattle.cgm_atom.proofs.RowLimits.{IsRowOf-inside}
use Rattle.cgm_rows_problems.proofs.resting.does_row_rest.Goals as goal

pub narrow_by_row-requires-clause-row : goal.narrow_by_row-requires-clause-row
narrow_by_row-requires-clause-row c =
    rw c.in_ok-left.ensures (IsRowOf-inside c.args.problem.now.bounds c.args.bounds.now c.row.result.now c.requires.in_box c.row.ensures.known)

pub returns-in-Same : goal.returns-in-Same
returns-in-Same c = λ t d.
    rw (get_or_from_slice_get c.args.problem.now.rows c.args.n c.row.result.now d c.row.ensures.found)
    (rw c.in_ok-left.ensures at c.in-Same.ensures.exact.0)
