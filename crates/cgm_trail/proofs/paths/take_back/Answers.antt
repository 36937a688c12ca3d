use Rattle.std.proofs.Common.{◌-◌, arith}
use Rattle.cgm_trail.proofs.Replaying.{IsTakenBack, taken_back}
use Rattle.cgm_trail.proofs.paths.take_back.Goals as goal

pub relax-requires-clause-known : goal.relax-requires-clause-known
relax-requires-clause-known c =
    let t : IsTakenBack c.args.problem.now.bounds c.args.changes.now (c.loop-at.at - 1) c.loop-at.at c.earlier.result = taken_back _ _ _ _ _ _ c.earlier.ensures (omega arith) (omega arith) c.requires.changes in
    rw c.loop-at.invariant.state t.known

pub relax-requires-clause-met : goal.relax-requires-clause-met
relax-requires-clause-met c =
    let t : IsTakenBack c.args.problem.now.bounds c.args.changes.now (c.loop-at.at - 1) c.loop-at.at c.earlier.result = taken_back _ _ _ _ _ _ c.earlier.ensures (omega arith) (omega arith) c.requires.changes in
    rw c.loop-at.invariant.state t.met

pub loop-at-preserved : goal.loop-at-preserved
loop-at-preserved c =
    let t : IsTakenBack c.args.problem.now.bounds c.args.changes.now (c.loop-at.at - 1) c.loop-at.at c.earlier.result = taken_back _ _ _ _ _ _ c.earlier.ensures (omega arith) (omega arith) c.requires.changes in
    record {
      started = omega arith;
      known = omega arith;
      state = rw (c.relax.ensures.after, c.loop-at.invariant.state) t.after;
    }
