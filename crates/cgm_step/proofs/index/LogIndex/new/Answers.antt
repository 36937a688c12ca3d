use Rattle.std.proofs.Common.{rules}
use Rattle.cgm_step.proofs.States.{own_begins}
use Rattle.cgm_step.proofs.index.LogIndex.new.Goals as goal

pub returns-clause-own : goal.returns-clause-own
returns-clause-own c = own_begins _ (search rules)
