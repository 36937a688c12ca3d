use Rattle.std.proofs.Common.{arith}
use Rattle.std.proofs.lemmas.Grind.{common_steps}
use Rattle.std.specs.Prelude.{None}
use Rattle.cgm_atom.proofs.Solutions.{within_exactly}
use Rattle.cgm_atom.proofs.checks.first_outside.Goals as goal

pub returns-clause-none : goal.returns-clause-none
returns-clause-none c =
    within_exactly c.args.problem.now.bounds c.args.values.now None c.recall_well_formed.ensures.proper c.requires (grind (arith, common_steps))
