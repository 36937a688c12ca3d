use Rattle.std.proofs.Common.{List, ◌++◌, ℕ, subst, append_assoc}
use Rattle.cgm_step.specs.Touching.{ChangesOnly, vars_of_guard, vars_of_terms}
use Rattle.cgm_step.proofs.restoring.restore_named.Goals as goal

pub returns-in-Row-clause-after : goal.returns-in-Row-clause-after
returns-in-Row-clause-after c = λ vars h.
    let r = c.in-Row.row.now in
    c.restore_terms.ensures.after vars
    (rw c.as_slice.ensures
    (c.restore_guard.ensures.after (vars_of_terms r.terms ++ vars)
    (subst (λ (all : List ℕ). ChangesOnly all c.args.problem.now.bounds c.args.bounds.now)
    (append_assoc (vars_of_guard r.guard) (vars_of_terms r.terms) vars) (rw c.in-Row.is at h))))

pub returns-in-Clause-clause-after : goal.returns-in-Clause-clause-after
returns-in-Clause-clause-after c = λ vars h. c.restore_atoms.ensures.after vars (rw c.in-Clause.is at h)
