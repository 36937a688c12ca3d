use Rattle.std.proofs.Common.{drop}
use Rattle.cgm_atom.proofs.RowTightening.{IsTightenedSoFar}
use Rattle.cgm_atom.proofs.rows.tighten_by_terms.Given as goal

abbrev pub invariant-loop-term : goal.invariant-loop-term
invariant-loop-term l =
    IsTightenedSoFar l.fn.bounds l.room l.terms (drop l.term-index l.terms) l.bounds l.outcome
