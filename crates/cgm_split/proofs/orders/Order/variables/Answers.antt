use Rattle.std.proofs.Common.{length}
use Rattle.cgm_split.proofs.Choosing.{known_each_once}
use Rattle.cgm_split.proofs.orders.Order.variables.Goals as goal

pub returns-clause-known : goal.returns-clause-known
returns-clause-known c =
    rw (← c.self.view_is, c.as_slice.ensures.value)
    (known_each_once (length c.self.inside.variables.items) c.self.inside.variables.items c.self.invariant.each_once)
