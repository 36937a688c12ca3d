use Rattle.std.proofs.Common.{◌-◌, sym, ◌∙◌, arith}
use Rattle.cgm_learn.proofs.Changes.{one_back, place_after}
use Rattle.cgm_learn.proofs.places.Place.back.Goals as goal

pub relax-requires-clause-known : goal.relax-requires-clause-known
relax-requires-clause-known c =
    (one_back c.args.trail.now c.args.self.now c.change-change.result.now c.earlier.result (c.args.self.now.at - 1) c.recall_trail.ensures c.requires.place (omega arith) c.change-change.ensures.found c.earlier.ensures).known

pub relax-requires-clause-met : goal.relax-requires-clause-met
relax-requires-clause-met c =
    (one_back c.args.trail.now c.args.self.now c.change-change.result.now c.earlier.result (c.args.self.now.at - 1) c.recall_trail.ensures c.requires.place (omega arith) c.change-change.ensures.found c.earlier.ensures).met

pub overflow_sub-self-then-is_decision : goal.overflow_sub-self-then-is_decision
overflow_sub-self-then-is_decision c =
    let back = one_back c.args.trail.now c.args.self.now c.change-change.result.now c.earlier.result (c.args.self.now.at - 1) c.recall_trail.ensures c.requires.place (omega arith) c.change-change.ensures.found c.earlier.ensures in
    let level = rw (sym c.is_decision.ensures ∙ c.if-is_decision.true) at back.level in
    omega (arith, level)

pub returns-then-is_decision-clause-place : goal.returns-then-is_decision-clause-place
returns-then-is_decision-clause-place c =
    let back = one_back c.args.trail.now c.args.self.now c.change-change.result.now c.earlier.result (c.args.self.now.at - 1) c.recall_trail.ensures c.requires.place (omega arith) c.change-change.ensures.found c.earlier.ensures in
    let level = rw (sym c.is_decision.ensures ∙ c.if-is_decision.true) at back.level in
    place_after c.args.trail.now c.args.self.now c.change-change.result.now c.earlier.result (c.args.self.now.at - 1) (c.args.self.now.level - 1) c.relax.new.self back c.relax.ensures.after (omega (arith, level))

pub returns-else-is_decision-clause-place : goal.returns-else-is_decision-clause-place
returns-else-is_decision-clause-place c =
    let back = one_back c.args.trail.now c.args.self.now c.change-change.result.now c.earlier.result (c.args.self.now.at - 1) c.recall_trail.ensures c.requires.place (omega arith) c.change-change.ensures.found c.earlier.ensures in
    let level = rw (sym c.is_decision.ensures ∙ c.if-is_decision.false) at back.level in
    place_after c.args.trail.now c.args.self.now c.change-change.result.now c.earlier.result (c.args.self.now.at - 1) c.args.self.now.level c.relax.new.self back c.relax.ensures.after level
