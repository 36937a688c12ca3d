use Rattle.cgm_split.proofs.Raising.{raised_count, raised_order, raised_variables}
use Rattle.cgm_split.proofs.activities.Activity.raise.Goals as goal

pub returns-clause-order : goal.returns-clause-order
returns-clause-order c x y other h = rw c.lift.ensures (raised_order c.args.self.now c.args.variable.0 x y c.requires other h)

pub returns-clause-count : goal.returns-clause-count
returns-clause-count c = rw c.lift.ensures (raised_count c.args.self.now c.args.variable.0)

pub returns-clause-variables : goal.returns-clause-variables
returns-clause-variables c = rw c.lift.ensures (raised_variables c.args.self.now c.args.variable.0)
