use Rattle.std.proofs.Common.{List, ◌++◌, ℕ, subst}
use Rattle.cgm_step.specs.Naming.{constraint_of}
use Rattle.cgm_step.specs.Touching.{ChangesOnly}
use Rattle.cgm_step.proofs.Touching.{vars_of_found}
use Rattle.cgm_step.proofs.restoring.restore_hint.Goals as goal

pub returns-in-Some-clause-after : goal.returns-in-Some-clause-after
returns-in-Some-clause-after c = λ vars h.
    c.restore_named.ensures.after vars
    (subst (λ (all : List ℕ). ChangesOnly (all ++ vars) c.args.problem.now.bounds c.args.bounds.now)
    (vars_of_found c.args.problem.now c.args.log.now c.args.hint.now (constraint_of c.in-Some.found.named) c.in-Some.ensures.0) h)
