use Rattle.std.proofs.Common.{ap, arith, subst, sym, ◌∙◌}
use Rattle.std.specs.Prelude.{IsTrue}
use Rattle.cgm_atom.specs.declared.constraints.Atom.{Atom}
use Rattle.cgm_atom.specs.Narrowing.{is_true_in}
use Rattle.cgm_atom.specs.Relaxing.{IsNumberWithin, relaxed}
use Rattle.cgm_learn.proofs.Boxes.{limit_holds}
use Rattle.cgm_learn.proofs.walks.free.Goals as goal

pub relax-requires-clause-known : goal.relax-requires-clause-known
relax-requires-clause-known c =
    let var = ap (λ (a : Atom). a.var.0) c.at_limit.ensures in
    omega (arith, var, c.requires.known, c.requires.limits.lower_count)

pub relax-requires-clause-met : goal.relax-requires-clause-met
relax-requires-clause-met c =
    subst (λ (a : Atom). IsTrue (is_true_in c.args.need.now a)) (sym c.at_limit.ensures) (limit_holds c.args.problem.now.bounds c.args.need.now c.args.atom c.requires.limits).met

pub returns-clause-freed : goal.returns-clause-freed
returns-clause-freed c = c.relax.ensures.after ∙ ap (relaxed c.args.need.now) c.at_limit.ensures

pub returns-clause-limits : goal.returns-clause-limits
returns-clause-limits c =
    c.relax.ensures.within c.args.problem.now.bounds c.requires.limits
    (subst (λ (a : Atom). IsNumberWithin c.args.problem.now.bounds a) (sym c.at_limit.ensures) (limit_holds c.args.problem.now.bounds c.args.need.now c.args.atom c.requires.limits).within)
