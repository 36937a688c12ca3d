-- From one hint to the next, and all at the end.
use Rattle.std.proofs.Common.{List, ap, subst, arith}
use Rattle.std.proofs.lemmas.List.{take_all}
use Rattle.cgm_atom.specs.declared.entries.Hint.{Hint}
use Rattle.cgm_atom.specs.declared.entries.Hint.TheVariants as hint
use Rattle.cgm_step.specs.Touching.{ChangesOnly, vars_of_hints}
use Rattle.cgm_step.proofs.Touching.{is_conflict, one_followed}
use Rattle.cgm_step.proofs.narrowing.conflict_at.Goals.{in-Same, in-Tighter}
use Rattle.cgm_step.proofs.narrowing.conflict_at.Goals as goal

abbrev filler : Hint
filler = hint.Clause 0

pub loop-i-preserved : goal.loop-i-preserved
loop-i-preserved c =
    elim c.match-narrow.branch [
      | in-Same w ↦
          one_followed c.args.problem.now c.args.log.now c.args.hints.now c.args.bounds.now c.loop-i.i filler c.loop-i.bounds c.narrow.new.bounds c.narrow.result
          (omega arith) c.loop-i.invariant c.narrow.ensures.exact (ap is_conflict w.in-Same.is) c.narrow.ensures.within
      | in-Tighter w ↦
          one_followed c.args.problem.now c.args.log.now c.args.hints.now c.args.bounds.now c.loop-i.i filler c.loop-i.bounds c.narrow.new.bounds c.narrow.result
          (omega arith) c.loop-i.invariant c.narrow.ensures.exact (ap is_conflict w.in-Tighter.is) c.narrow.ensures.within
    ]

pub returns-clause-touched : goal.returns-clause-touched
returns-clause-touched c =
    subst (λ (hints : List Hint). ChangesOnly (vars_of_hints c.args.problem.now c.args.log.now hints) c.args.bounds.now c.loop-i.bounds)
    (take_all c.loop-i.i c.args.hints.now (omega arith)) c.loop-i.invariant.touched
