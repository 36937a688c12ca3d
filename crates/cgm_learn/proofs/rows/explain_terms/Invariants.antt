use Rattle.std.proofs.Common.{drop}
use Rattle.cgm_learn.proofs.RowNeeds.{IsRowSoFar}
use Rattle.cgm_learn.proofs.rows.explain_terms.Given as goal

abbrev pub invariant-loop-term : goal.invariant-loop-term
invariant-loop-term l = IsRowSoFar l.work l.fn.need l.need l.own l.terms (drop l.term-index l.terms) l.slack l.left
