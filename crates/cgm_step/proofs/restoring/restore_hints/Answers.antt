use Rattle.std.proofs.Common.{List, ◌++◌, ◌+◌, drop, subst, arith, append_assoc, ap, ℕ, ◌∙◌}
use Rattle.std.proofs.lemmas.List.{drop_all, drop_more}
use Rattle.cgm_atom.specs.declared.entries.Hint.{Hint}
use Rattle.cgm_atom.specs.declared.entries.Hint.TheVariants as hint
use Rattle.cgm_step.specs.Touching.{ChangesOnly, vars_of_hint, vars_of_hints}
use Rattle.cgm_step.proofs.restoring.restore_hints.Goals as goal

abbrev filler : Hint
filler = hint.Clause 0

pub loop-h-preserved : goal.loop-h-preserved
loop-h-preserved c =
    let p = c.args.problem.now in
    let log = c.args.log.now in
    let hints = c.args.hints.now in
    let i = c.loop-h.h-index in (
      c.restore_hint.ensures.within,
      λ vars h.
          c.restore_hint.ensures.after (vars_of_hints p log (drop (i + 1) hints) ++ vars)
          (subst (λ (all : List ℕ). ChangesOnly all p.bounds c.loop-h.bounds)
          (ap (λ (rest : List Hint). vars_of_hints p log rest ++ vars) (drop_more hints i filler c.loop-h-test.true)
          ∙ append_assoc (vars_of_hint p log _) (vars_of_hints p log (drop (i + 1) hints)) vars)
          (c.loop-h.invariant.1 vars h)),
    )

pub returns-clause-after : goal.returns-clause-after
returns-clause-after c = λ vars h.
    subst (λ (rest : List Hint). ChangesOnly (vars_of_hints c.args.problem.now c.args.log.now rest ++ vars) c.args.problem.now.bounds c.loop-h.bounds)
    (drop_all c.loop-h.h-index c.args.hints.now (omega arith)) (c.loop-h.invariant.1 vars h)
