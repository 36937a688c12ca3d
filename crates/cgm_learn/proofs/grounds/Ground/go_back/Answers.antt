-- One change back: passed over, turned at, or taken back to what its reason needs.
use Rattle.std.proofs.Common.{ap, arith, length, sym, ◌∙◌}
use Rattle.cgm_atom.specs.declared.constraints.Atom.{Atom}
use Rattle.cgm_atom.specs.Instance.{Instance}
use Rattle.cgm_learn.proofs.Changes.{change_known, next_place, place_in}
use Rattle.cgm_learn.proofs.Following.{cause_at, freed, none_stepped, on_none, passed, turned, turned_at}
use Rattle.cgm_learn.proofs.grounds.Ground.go_back.Goals as goal

pub back-change-requires-clause-place : goal.back-change-requires-clause-place
back-change-requires-clause-place c = c.requires.walk.place

pub back-change-requires-clause-left : goal.back-change-requires-clause-left
back-change-requires-clause-left c = c.requires.left

pub is_met_before-requires : goal.is_met_before-requires
is_met_before-requires c =
    let known = change_known c.args.trail.now c.back-change.new.self.at c.back-change.result c.recall_trail.ensures c.back-change.ensures.change in
    let limits = place_in c.args.self.now.problem c.args.trail.now c.args.walk.now.place c.requires.reasoned.problem c.recall_trail.ensures c.requires.walk.place in
    let same = ap (λ q. length q.bounds.lower) c.requires.reasoned.problem in
    omega (arith, known, same, c.requires.walk.needed.limits.lower_count)

pub returns-then-is_met_before-clause-stepped : goal.returns-then-is_met_before-clause-stepped
returns-then-is_met_before-clause-stepped c =
    let next = next_place c.args.trail.now c.back-change.new.self c.args.walk.now.place c.back-change.result c.recall_trail.ensures c.back-change.ensures.place c.requires.walk.place c.back-change.ensures.at c.back-change.ensures.change in
    passed c.args.self.now c.args.trail.now c.back-change.new.self c.args.walk.now c.back-change.result c.back-change.ensures.place next (sym c.is_met_before.ensures ∙ c.if-is_met_before.true) c.requires.walk

pub returns-then-is_met_before-clause-at : goal.returns-then-is_met_before-clause-at
returns-then-is_met_before-clause-at c = c.back-change.ensures.at

pub at_bound-atom-requires : goal.at_bound-atom-requires
at_bound-atom-requires c =
    let known = change_known c.args.trail.now c.back-change.new.self.at c.back-change.result c.recall_trail.ensures c.back-change.ensures.change in
    let same = ap (λ q. length q.bounds.lower) c.requires.reasoned.problem in
    omega (arith, known, same, c.requires.walk.needed.limits.lower_count)

pub free-requires-clause-known : goal.free-requires-clause-known
free-requires-clause-known c =
    let known = change_known c.args.trail.now c.back-change.new.self.at c.back-change.result c.recall_trail.ensures c.back-change.ensures.change in
    let same = ap (λ q. length q.bounds.lower) c.requires.reasoned.problem in
    let var = ap (λ (a : Atom). a.var.0) c.at_bound-atom.ensures in
    let own = ap (λ (q : Instance). length q.bounds.lower) c.problem-problem.ensures.problem in
    omega (arith, known, same, var, own)

pub free-requires-clause-limits : goal.free-requires-clause-limits
free-requires-clause-limits c = rw c.problem-problem.ensures.problem c.requires.walk.needed.limits

pub returns-in_err-copy-in-Decision-clause-stepped : goal.returns-in_err-copy-in-Decision-clause-stepped
returns-in_err-copy-in-Decision-clause-stepped c = none_stepped _ c.args.self.now c.args.trail.now _ c.from_residual.result c.from_residual.ensures.1

pub returns-in_err-copy-in-Decision-clause-at : goal.returns-in_err-copy-in-Decision-clause-at
returns-in_err-copy-in-Decision-clause-at c = on_none _ _ c.from_residual.result c.from_residual.ensures.1

pub is_enough-requires-clause-base : goal.is_enough-requires-clause-base
is_enough-requires-clause-base c = c.requires.base

pub is_enough-requires-clause-problem : goal.is_enough-requires-clause-problem
is_enough-requires-clause-problem c = rw c.problem-problem.ensures.problem c.requires.reasoned.problem

pub is_enough-requires-clause-limits : goal.is_enough-requires-clause-limits
is_enough-requires-clause-limits c = c.free.ensures.limits

pub returns-in_err-copy-in-By-clause-stepped : goal.returns-in_err-copy-in-By-clause-stepped
returns-in_err-copy-in-By-clause-stepped c = none_stepped _ c.args.self.now c.args.trail.now _ c.from_residual-in_err-copy-in-By.result c.from_residual-in_err-copy-in-By.ensures.1

pub returns-in_err-copy-in-By-clause-at : goal.returns-in_err-copy-in-By-clause-at
returns-in_err-copy-in-By-clause-at c = on_none _ _ c.from_residual-in_err-copy-in-By.result c.from_residual-in_err-copy-in-By.ensures.1

pub returns-then-is_enough-clause-stepped : goal.returns-then-is_enough-clause-stepped
returns-then-is_enough-clause-stepped c =
    let w = c.back-change.new.self in
    let next = next_place c.args.trail.now w c.args.walk.now.place c.back-change.result c.recall_trail.ensures c.back-change.ensures.place c.requires.walk.place c.back-change.ensures.at c.back-change.ensures.change in
    let far = freed c.args.self.now c.args.trail.now w c.args.walk.now c.free.new.need c.back-change.result c.at_bound-atom.result c.recall_trail.ensures c.requires.reasoned.problem c.back-change.ensures.place next (sym c.is_met_before.ensures ∙ c.if-is_met_before.false) c.requires.walk c.at_bound-atom.ensures (rw c.problem-problem.ensures.problem at c.free.ensures.freed) (rw c.problem-problem.ensures.problem at c.free.ensures.limits) in
    turned c.args.self.now c.args.trail.now (record { place = w; need = c.free.new.need; used = c.args.walk.now.used }) c.args.base.now (record { atom = c.at_bound-atom.result; base = c.in_ok-copy-in-By.field-0 }) c.back-change.ensures.place c.requires.base
    (c.is_enough.ensures.earlier c.if-is_enough.true) (c.is_enough.ensures.decision c.if-is_enough.true) (c.is_enough.ensures.inside c.if-is_enough.true) far c.in_ok-copy-in-By.ensures

pub returns-then-is_enough-clause-at : goal.returns-then-is_enough-clause-at
returns-then-is_enough-clause-at c = c.back-change.ensures.at

pub resolve-requires-clause-limits : goal.resolve-requires-clause-limits
resolve-requires-clause-limits c = place_in c.args.self.now.problem c.args.trail.now c.back-change.new.self c.requires.reasoned.problem c.recall_trail.ensures c.back-change.ensures.place

pub resolve-requires-clause-rest : goal.resolve-requires-clause-rest
resolve-requires-clause-rest c =
    let w = c.back-change.new.self in
    let next = next_place c.args.trail.now w c.args.walk.now.place c.back-change.result c.recall_trail.ensures c.back-change.ensures.place c.requires.walk.place c.back-change.ensures.at c.back-change.ensures.change in
    freed c.args.self.now c.args.trail.now w c.args.walk.now c.free.new.need c.back-change.result c.at_bound-atom.result c.recall_trail.ensures c.requires.reasoned.problem c.back-change.ensures.place next (sym c.is_met_before.ensures ∙ c.if-is_met_before.false) c.requires.walk c.at_bound-atom.ensures (rw c.problem-problem.ensures.problem at c.free.ensures.freed) (rw c.problem-problem.ensures.problem at c.free.ensures.limits)

pub resolve-requires-clause-cause : goal.resolve-requires-clause-cause
resolve-requires-clause-cause c =
    let w = c.back-change.new.self in
    let next = next_place c.args.trail.now w c.args.walk.now.place c.back-change.result c.recall_trail.ensures c.back-change.ensures.place c.requires.walk.place c.back-change.ensures.at c.back-change.ensures.change in
    cause_at c.args.self.now c.args.trail.now w c.args.walk.now c.back-change.result c.in-By.hint c.at_bound-atom.result c.recall_trail.ensures c.requires.reasoned c.back-change.ensures.place next c.requires.walk c.back-change.ensures.change c.in-By.is c.at_bound-atom.ensures

pub returns-in_err-resolve-in-By-clause-stepped : goal.returns-in_err-resolve-in-By-clause-stepped
returns-in_err-resolve-in-By-clause-stepped c = none_stepped _ c.args.self.now c.args.trail.now _ c.from_residual-in_err-resolve-in-By.result c.from_residual-in_err-resolve-in-By.ensures.1

pub returns-in_err-resolve-in-By-clause-at : goal.returns-in_err-resolve-in-By-clause-at
returns-in_err-resolve-in-By-clause-at c = on_none _ _ c.from_residual-in_err-resolve-in-By.result c.from_residual-in_err-resolve-in-By.ensures.1

pub returns-in_ok-copy-in-Decision-clause-stepped : goal.returns-in_ok-copy-in-Decision-clause-stepped
returns-in_ok-copy-in-Decision-clause-stepped c =
    let w = c.back-change.new.self in
    let next = next_place c.args.trail.now w c.args.walk.now.place c.back-change.result c.recall_trail.ensures c.back-change.ensures.place c.requires.walk.place c.back-change.ensures.at c.back-change.ensures.change in
    let far = freed c.args.self.now c.args.trail.now w c.args.walk.now c.free.new.need c.back-change.result c.at_bound-atom.result c.recall_trail.ensures c.requires.reasoned.problem c.back-change.ensures.place next (sym c.is_met_before.ensures ∙ c.if-is_met_before.false) c.requires.walk c.at_bound-atom.ensures (rw c.problem-problem.ensures.problem at c.free.ensures.freed) (rw c.problem-problem.ensures.problem at c.free.ensures.limits) in
    turned_at c.args.self.now c.args.trail.now (record { place = w; need = c.free.new.need; used = c.args.walk.now.used }) c.back-change.result (record { atom = c.at_bound-atom.result; base = c.in_ok-copy-in-Decision.field-0 }) c.back-change.ensures.place c.back-change.ensures.change c.in-Decision.is far c.in_ok-copy-in-Decision.ensures

pub returns-in_ok-copy-in-Decision-clause-at : goal.returns-in_ok-copy-in-Decision-clause-at
returns-in_ok-copy-in-Decision-clause-at c = c.back-change.ensures.at

pub returns-in_ok-resolve-in-By-clause-stepped : goal.returns-in_ok-resolve-in-By-clause-stepped
returns-in_ok-resolve-in-By-clause-stepped c = record { place = rw c.resolve.ensures.place c.back-change.ensures.place; needed = c.in_ok-resolve-in-By.ensures.needed }

pub returns-in_ok-resolve-in-By-clause-at : goal.returns-in_ok-resolve-in-By-clause-at
returns-in_ok-resolve-in-By-clause-at c = rw c.resolve.ensures.place c.back-change.ensures.at
