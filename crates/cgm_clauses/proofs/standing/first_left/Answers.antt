use Rattle.std.proofs.Common.{arith}
use Rattle.cgm_clauses.proofs.Standings.{first_found}
use Rattle.cgm_clauses.proofs.standing.first_left.Goals as goal

pub returns-then-not-is_false : goal.returns-then-not-is_false
returns-then-not-is_false c =
    first_found c.args.bounds.now c.args.atoms.now c.args.from c.loop-i.i _ c.is_false.result (omega arith) c.is_false.ensures c.if-not-is_false.true c.loop-i.invariant
