use Rattle.cgm_clauses.proofs.Naming.{problem_named}
use Rattle.cgm_clauses.proofs.laws.problem_clauses_are_named.Goals as goal

pub returns : goal.returns
returns c = problem_named
