use Rattle.std.proofs.Common.{◌≡◌, ◌++◌, drop}
use Rattle.cgm_clauses.specs.StoreState.{numbered}
use Rattle.cgm_clauses.proofs.named.clauses_of.Given as goal

abbrev pub invariant-loop-number : goal.invariant-loop-number
invariant-loop-number l = l.clauses.items ++ numbered l.number (drop l.number l.problem.clauses) ≡ numbered 0 l.problem.clauses
