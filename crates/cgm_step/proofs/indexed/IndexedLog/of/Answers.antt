use Rattle.cgm_step.proofs.States.{state_by_index}
use Rattle.cgm_step.proofs.indexed.IndexedLog.of.Goals as goal

pub returns : goal.returns
returns c = state_by_index c.args.entries.now c.args.index.now c.requires
