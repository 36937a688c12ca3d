use Rattle.std.proofs.Common.{List, ◌++◌, ◌+◌, drop, subst, arith}
use Rattle.std.proofs.lemmas.List.{drop_all}
use Rattle.cgm_atom.specs.declared.constraints.Atom.{Atom}
use Rattle.cgm_atom.specs.ClauseAtoms.{atoms_of}
use Rattle.cgm_step.specs.Touching.{ChangesOnly, vars_of_atoms}
use Rattle.cgm_step.proofs.Touching.{drop_found}
use Rattle.cgm_step.proofs.restoring.restore_atoms.Goals as goal

pub loop-i-preserved : goal.loop-i-preserved
loop-i-preserved c = (
  c.restore.ensures.within,
  λ vars h.
      c.restore.ensures.after (vars_of_atoms (drop (c.loop-i.i + 1) (atoms_of c.args.atoms)) ++ vars)
      (subst (λ (rest : List Atom). ChangesOnly (vars_of_atoms rest ++ vars) c.args.problem.now.bounds c.loop-i.bounds)
      (drop_found (atoms_of c.args.atoms) c.loop-i.i c.atom.result c.atom.ensures) (c.loop-i.invariant.1 vars h)),
)

pub returns-clause-after : goal.returns-clause-after
returns-clause-after c = λ vars h.
    subst (λ (rest : List Atom). ChangesOnly (vars_of_atoms rest ++ vars) c.args.problem.now.bounds c.loop-i.bounds)
    (drop_all c.loop-i.i (atoms_of c.args.atoms) (omega (arith, c.count-i-end.ensures))) (c.loop-i.invariant.1 vars h)
