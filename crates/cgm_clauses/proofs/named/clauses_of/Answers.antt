use Rattle.std.proofs.Common.{arith}
use Rattle.cgm_clauses.proofs.Naming.{numbered_pushed}
use Rattle.cgm_clauses.proofs.named.clauses_of.Goals as goal

pub loop-number-preserved : goal.loop-number-preserved
loop-number-preserved c =
    numbered_pushed c.args.problem.now.clauses c.loop-number.clauses.items c.push.new.self.items c.loop-number.number c.clause.result.now c.in_ok-copy.field-0
    (omega arith) c.clause.ensures.found c.in_ok-copy.ensures c.in_ok-push.ensures.items c.loop-number.invariant
