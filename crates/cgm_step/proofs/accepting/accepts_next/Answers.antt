use Rattle.cgm_step.proofs.Testing.{first_fault-Best}
use Rattle.cgm_step.proofs.accepting.accepts_next.Goals as goal

pub returns-in-Best-clause-exact : goal.returns-in-Best-clause-exact
returns-in-Best-clause-exact c =
    rw (c.in-Best.is, first_fault-Best c.args.problem.now c.args.log.now c.in-Best.by c.in-Best.values c.as_slice.result.now c.as_slice.ensures)
    c.accepts_best.ensures
