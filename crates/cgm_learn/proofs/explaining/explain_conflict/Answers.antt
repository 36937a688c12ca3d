use Rattle.cgm_atom.specs.ClauseAtoms.{atoms_of}
use Rattle.cgm_atom.proofs.RowLimits.{IsRowOf-inside}
use Rattle.cgm_atom.proofs.Tightening.{AreBounds-inside}
use Rattle.cgm_learn.proofs.Needs.{clause_conflict, proper_of}
use Rattle.cgm_learn.proofs.explaining.explain_conflict.Goals as goal

pub explain_row_conflict-requires-clause-row : goal.explain_row_conflict-requires-clause-row
explain_row_conflict-requires-clause-row c = IsRowOf-inside c.args.problem.now.bounds c.args.work.now c.in-Row.row.now c.requires.work_limits (rw c.in-Row.is at c.requires.named)

pub explain_row_conflict-requires-clause-needed : goal.explain_row_conflict-requires-clause-needed
explain_row_conflict-requires-clause-needed c =
    let limits = c.args.problem.now.bounds in
    let sizes = c.recall_well_formed.ensures.sizes in
    record {
      proper = proper_of limits c.args.work.now c.requires.work_limits;
      inside = c.requires.inside;
      work_sizes = AreBounds-inside limits c.args.work.now sizes c.requires.work_limits.inside c.requires.work_limits.ordered;
      need_sizes = AreBounds-inside limits c.args.need.now sizes c.requires.need_limits.inside c.requires.need_limits.ordered;
    }

pub explain_row_conflict-requires-clause-conflict : goal.explain_row_conflict-requires-clause-conflict
explain_row_conflict-requires-clause-conflict c = rw c.in-Row.is at c.requires.conflict

pub returns-in-Clause-clause-conflict : goal.returns-in-Clause-clause-conflict
returns-in-Clause-clause-conflict c =
    rw c.in-Clause.is
    (clause_conflict c.args.work.now c.explain_clause.new.need (record { atoms = atoms_of c.in-Clause.atoms }) (rw c.in-Clause.is at c.requires.conflict) c.explain_clause.ensures.left)

pub returns-in-Row-clause-conflict : goal.returns-in-Row-clause-conflict
returns-in-Row-clause-conflict c = rw c.in-Row.is c.explain_row_conflict.ensures.conflict
