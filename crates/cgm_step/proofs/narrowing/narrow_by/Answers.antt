use Rattle.cgm_atom.proofs.RowLimits.{IsRowOf-inside}
use Rattle.cgm_step.proofs.narrowing.narrow_by.Goals as goal

pub narrow_by_row-requires-clause-row : goal.narrow_by_row-requires-clause-row
narrow_by_row-requires-clause-row c =
    IsRowOf-inside c.args.problem.now.bounds c.args.bounds.now c.in-Row.row.now c.requires.in_box (rw c.in-Row.is at c.requires.known)

pub returns-in-Row-clause-exact : goal.returns-in-Row-clause-exact
returns-in-Row-clause-exact c = rw c.in-Row.is c.narrow_by_row.ensures.exact

pub returns-in-Clause-clause-exact : goal.returns-in-Clause-clause-exact
returns-in-Clause-clause-exact c = rw c.in-Clause.is c.narrow_by_atoms.ensures.exact
