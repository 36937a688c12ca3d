use Rattle.std.proofs.Common.{w64, rules}
use Rattle.std.proofs.lemmas.Int.{to_z-of_z}
use Rattle.cgm_step.proofs.Touching.{one_restored}
use Rattle.cgm_step.proofs.restoring.restore.Goals as goal

pub returns-clause-after : goal.returns-clause-after
returns-clause-after c = λ vars h.
    rw (
      c.relax-2.ensures.after,
      c.relax.ensures.after,
      to_z-of_z w64 c.bounds-lo.result.0 (search rules),
      to_z-of_z w64 c.bounds-lo.result.1 (search rules),
      c.bounds-lo.ensures.bounds,
    )
    (one_restored c.args.problem.now.bounds c.args.bounds.now c.args.variable vars c.requires.in_box c.requires.known h)
