use Rattle.std.proofs.Common.{length}
use Rattle.cgm_rows_problems.proofs.problems.+are_terms.Given as goal

abbrev pub decreases-are_terms : goal.decreases-are_terms
decreases-are_terms l = length l.terms.now
