use Rattle.std.proofs.Common.{◌+◌, ◌^◌, ◌<◌, arith}
use Rattle.cgm_split.proofs.Raising.{weighing_rescaled}
use Rattle.cgm_split.proofs.activities.Activity.lift.Goals as goal

pub invariant_of-self : goal.invariant_of-self
invariant_of-self c =
    let light : c.index.result.now + c.self.inside.increment < 2 ^ 64 = omega (arith, c.max.type_inv, c.max.ensures) in
    weighing_rescaled c.self.inside.variables.items c.self.inside.weights.items c.rescale_all.new.weights.items _
    (c.index.result.now + c.self.inside.increment) c.self.inside.increment c.grown_increment-increment.result
    c.self.invariant light c.rescale_all.ensures c.grown_increment-increment.ensures.value
