use Rattle.std.proofs.Common.{rules}
use Rattle.cgm_step.proofs.States.{own_next}
use Rattle.cgm_step.proofs.index.LogIndex.add.Goals as goal

pub returns-clause-own : goal.returns-clause-own
returns-clause-own c = own_next c.args.self.now _ c.args.entry.now (search rules)
