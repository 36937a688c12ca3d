use Rattle.std.proofs.Common.{◌<◌, length, arith}
use Rattle.cgm_split.proofs.Leading.{leading_more}
use Rattle.cgm_split.proofs.activities.heaviest_of.Goals as goal

pub loop-v-preserved : goal.loop-v-preserved
loop-v-preserved c =
    let within : c.loop-v.v-index < length c.args.variables.now = omega (arith, c.loop-v-test.true) in
    leading_more c.args.bounds.now c.args.weights.now c.args.variables.now c.loop-v.v-index _ c.loop-v.best c.heavier_of-best.result within
    (c.requires.known c.loop-v.v-index _ within) c.loop-v.invariant c.heavier_of-best.ensures
