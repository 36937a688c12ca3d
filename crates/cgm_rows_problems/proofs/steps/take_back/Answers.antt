use Rattle.std.proofs.Common.{◌≡◌, ◌-◌, ap, sym, ◌∙◌, arith}
use Rattle.std.proofs.lemmas.Option.{get_or_from_slice_get}
use Rattle.cgm_trail.specs.Earlier.{earlier_bound}
use Rattle.cgm_trail.proofs.Replaying.{IsTakenBack, taken_back}
use Rattle.cgm_rows_problems.proofs.steps.take_back.Goals as goal

pub relax-requires-clause-known : goal.relax-requires-clause-known
relax-requires-clause-known c =
    let t : IsTakenBack c.args.trail.now.problem.bounds c.args.trail.now.changes (c.loop-at.at - 1) c.loop-at.at c.earlier.result = taken_back _ _ _ _ c.change.result.now _ (c.earlier.ensures ∙ ap earlier_bound (sym (get_or_from_slice_get c.args.trail.now.changes (c.loop-at.at - 1) c.change.result.now c.change.result.now c.change.ensures.found))) (omega arith) (omega arith) c.change.ensures.valid.changes in
    rw c.loop-at.invariant.state t.known

pub relax-requires-clause-met : goal.relax-requires-clause-met
relax-requires-clause-met c =
    let t : IsTakenBack c.args.trail.now.problem.bounds c.args.trail.now.changes (c.loop-at.at - 1) c.loop-at.at c.earlier.result = taken_back _ _ _ _ c.change.result.now _ (c.earlier.ensures ∙ ap earlier_bound (sym (get_or_from_slice_get c.args.trail.now.changes (c.loop-at.at - 1) c.change.result.now c.change.result.now c.change.ensures.found))) (omega arith) (omega arith) c.change.ensures.valid.changes in
    rw c.loop-at.invariant.state t.met

pub loop-at-preserved : goal.loop-at-preserved
loop-at-preserved c =
    let t : IsTakenBack c.args.trail.now.problem.bounds c.args.trail.now.changes (c.loop-at.at - 1) c.loop-at.at c.earlier.result = taken_back _ _ _ _ c.change.result.now _ (c.earlier.ensures ∙ ap earlier_bound (sym (get_or_from_slice_get c.args.trail.now.changes (c.loop-at.at - 1) c.change.result.now c.change.result.now c.change.ensures.found))) (omega arith) (omega arith) c.change.ensures.valid.changes in
    record {
      started = omega arith;
      known = omega arith;
      state = rw (c.relax.ensures.after, c.loop-at.invariant.state) t.after;
    }
