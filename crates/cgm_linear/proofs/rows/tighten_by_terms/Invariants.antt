use Rattle.std.proofs.Common.{drop}
use Rattle.cgm_linear.proofs.RowSteps.{IsSweptSoFar}
use Rattle.cgm_linear.proofs.rows.tighten_by_terms.Given as goal

abbrev pub invariant-loop-term : goal.invariant-loop-term
invariant-loop-term l = IsSweptSoFar l.by l.row l.room l.fn.trail l.fn.left (drop l.term-index l.row.terms) l.trail l.left
