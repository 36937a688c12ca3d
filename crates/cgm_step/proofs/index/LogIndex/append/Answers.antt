use Rattle.cgm_step.proofs.States.{own_after}
use Rattle.cgm_step.proofs.index.LogIndex.append.Goals as goal

pub returns-clause-own : goal.returns-clause-own
returns-clause-own c =
    own_after c.args.self.now c.add_each.new.self c.args.more.now c.in_default.ensures.ok
