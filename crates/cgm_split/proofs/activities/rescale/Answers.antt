use Rattle.std.proofs.Common.{◌<◌, length, arith}
use Rattle.cgm_split.proofs.Raising.{rescaled_more}
use Rattle.cgm_split.proofs.activities.rescale.Goals as goal

pub loop-weight-preserved : goal.loop-weight-preserved
loop-weight-preserved c =
    let within : c.loop-weight.weight-index < length c.args.weights.now = omega (arith, c.loop-weight-test.true) in
    rescaled_more c.args.weights.now c.loop-weight.weights c.loop-weight.weight-index within c.loop-weight.invariant
