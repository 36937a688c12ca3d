use Rattle.std.proofs.Common.{sym}
use Rattle.cgm_step.proofs.Accepted.{AreValuesOf-from_none}
use Rattle.cgm_step.proofs.accepting.test_values.Goals as goal

pub returns-in-None-clause-fit : goal.returns-in-None-clause-fit
returns-in-None-clause-fit c =
    AreValuesOf-from_none c.args.problem.now c.args.values.now c.recall_well_formed.ensures (sym c.in-None.ensures.first)
