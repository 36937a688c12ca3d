use Rattle.std.proofs.Common.{ℕ, subst, sym}
use Rattle.cgm_atom.specs.ClauseAtoms.{AreKnown, atoms_of}
use Rattle.cgm_atom.proofs.RowLimits.{IsRowOf-inside}
use Rattle.cgm_atom.proofs.Tightening.{AreBounds-inside}
use Rattle.cgm_learn.proofs.Needs.{clause_gives, proper_of}
use Rattle.cgm_learn.proofs.explaining.explain_atom.Goals as goal

pub explain_row_atom-requires-clause-row : goal.explain_row_atom-requires-clause-row
explain_row_atom-requires-clause-row c = IsRowOf-inside c.args.problem.now.bounds c.args.work.now c.in-Row.row.now c.requires.work_limits (rw c.in-Row.is at c.requires.named)

pub explain_row_atom-requires-clause-needed : goal.explain_row_atom-requires-clause-needed
explain_row_atom-requires-clause-needed c =
    let limits = c.args.problem.now.bounds in
    let sizes = c.recall_well_formed.ensures.sizes in
    record {
      proper = proper_of limits c.args.work.now c.requires.work_limits;
      inside = c.requires.inside;
      work_sizes = AreBounds-inside limits c.args.work.now sizes c.requires.work_limits.inside c.requires.work_limits.ordered;
      need_sizes = AreBounds-inside limits c.args.need.now sizes c.requires.need_limits.inside c.requires.need_limits.ordered;
    }

pub explain_row_atom-requires-clause-given : goal.explain_row_atom-requires-clause-given
explain_row_atom-requires-clause-given c = rw c.in-Row.is at c.requires.given

pub returns-in-Clause-clause-led : goal.returns-in-Clause-clause-led
returns-in-Clause-clause-led c =
    let limits = c.args.problem.now.bounds in
    let work = c.args.work.now in
    let named = rw c.in-Clause.is at c.requires.named in
    rw c.in-Clause.is
    (clause_gives work c.explain_clause.new.need (record { atoms = atoms_of c.in-Clause.atoms }) c.args.atom (proper_of limits work c.requires.work_limits)
    (c.explain_clause.ensures.explained limits c.requires.need_limits).inside
    (subst (λ (n : ℕ). AreKnown n (atoms_of c.in-Clause.atoms)) (sym c.requires.work_limits.lower_count) named.1) c.requires.undecided.not_true c.explain_clause.ensures.left (rw c.in-Clause.is at c.requires.given))
