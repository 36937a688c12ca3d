use Rattle.std.proofs.Common.{List, ◌++◌, ◌+◌, drop, subst, arith}
use Rattle.std.specs.Prelude.{ℤ, pos}
use Rattle.std.proofs.lemmas.List.{drop_all, drop_more}
use Rattle.cgm_atom.specs.declared.constraints.Var.{Var}
use Rattle.cgm_atom.specs.Instance.{var_count}
use Rattle.cgm_step.specs.Touching.{ChangesOnly, vars_of_terms}
use Rattle.cgm_step.proofs.Touching.{term_known}
use Rattle.cgm_step.proofs.restoring.restore_terms.Goals as goal

abbrev filler : ℤ × Var
filler = (pos 0, record { 0 = 0 })

pub restore-requires-clause-known : goal.restore-requires-clause-known
restore-requires-clause-known c =
    term_known (var_count c.args.problem.now) c.args.terms.now c.loop-term.term-index filler c.requires.known c.loop-term-test.true

pub loop-term-preserved : goal.loop-term-preserved
loop-term-preserved c =
    let terms = c.args.terms.now in
    let i = c.loop-term.term-index in (
      c.restore.ensures.within,
      λ vars h.
          c.restore.ensures.after (vars_of_terms (drop (i + 1) terms) ++ vars)
          (subst (λ (rest : List (ℤ × Var)). ChangesOnly (vars_of_terms rest ++ vars) c.args.problem.now.bounds c.loop-term.bounds)
          (drop_more terms i filler c.loop-term-test.true) (c.loop-term.invariant.1 vars h)),
    )

pub returns-clause-after : goal.returns-clause-after
returns-clause-after c = λ vars h.
    subst (λ (rest : List (ℤ × Var)). ChangesOnly (vars_of_terms rest ++ vars) c.args.problem.now.bounds c.loop-term.bounds)
    (drop_all c.loop-term.term-index c.args.terms.now (omega arith)) (c.loop-term.invariant.1 vars h)
