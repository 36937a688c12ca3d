use Rattle.std.proofs.Common.{◌<◌, ◌∙◌, length, sym, arith}
use Rattle.cgm_clauses.proofs.Steps.{made_next, problem_stays, quiet_at_end, quiet_next, room_stays}
use Rattle.cgm_clauses.proofs.sweeping.sweep.Goals as goal

pub returns-in_err-look_at-clause-made : goal.returns-in_err-look_at-clause-made
returns-in_err-look_at-clause-made c =
    let short : c.loop-named.named-index < length c.args.clauses.now = omega (arith, c.loop-named-test.true) in
    made_next c.args.clauses.now c.named-item.result _ _ _ _ _ _ (c.loop-named.named-index, short, sym c.named-item.is) c.loop-named.invariant.made c.look_at.ensures.made

pub returns-in-Conflict-clause-made : goal.returns-in-Conflict-clause-made
returns-in-Conflict-clause-made c =
    let short : c.loop-named.named-index < length c.args.clauses.now = omega (arith, c.loop-named-test.true) in
    made_next c.args.clauses.now c.named-item.result _ _ _ _ _ _ (c.loop-named.named-index, short, sym c.named-item.is) c.loop-named.invariant.made c.look_at.ensures.made

pub returns-in-Spent-clause-made : goal.returns-in-Spent-clause-made
returns-in-Spent-clause-made c =
    let short : c.loop-named.named-index < length c.args.clauses.now = omega (arith, c.loop-named-test.true) in
    made_next c.args.clauses.now c.named-item.result _ _ _ _ _ _ (c.loop-named.named-index, short, sym c.named-item.is) c.loop-named.invariant.made c.look_at.ensures.made

pub loop-named-preserved : goal.loop-named-preserved
loop-named-preserved c =
    let short : c.loop-named.named-index < length c.args.clauses.now = omega (arith, c.loop-named-test.true) in
    record {
      made =
          made_next c.args.clauses.now c.named-item.result _ _ _ _ _ _ (c.loop-named.named-index, short, sym c.named-item.is) c.loop-named.invariant.made c.look_at.ensures.made;
      quiet =
          quiet_next _ _ c.args.clauses.now c.loop-named.named-index c.named-item.result _ _ _ _ _ _ short c.named-item.is c.loop-named.invariant.made c.look_at.ensures.made
          c.loop-named.invariant.quiet (rw c.in-Quiet.is at c.in_ok-look_at.ensures.answer);
      problem = problem_stays _ _ _ _ _ c.look_at.ensures.made ∙ c.loop-named.invariant.problem;
      room = room_stays _ _ _ _ _ _ c.look_at.ensures.made c.loop-named.invariant.room;
    }

pub returns-clause-answer : goal.returns-clause-answer
returns-clause-answer c = λ e.
    quiet_at_end _ c.args.clauses.now c.loop-named.named-index (omega (arith, c.loop-named-test.false)) (c.loop-named.invariant.quiet e)
