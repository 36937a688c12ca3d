use Rattle.std.proofs.Common.{arith}
use Rattle.cgm_learn.proofs.Following.{walked}
use Rattle.cgm_learn.proofs.grounds.Ground.walk.Goals as goal

pub returns : goal.returns
returns c = walked c.args.self.now c.args.trail.now c.loop-walk.walk c.requires.reasoned.problem (omega arith) c.loop-walk.invariant.walk
