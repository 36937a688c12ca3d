use Rattle.std.proofs.Common.{◌≡◌, ◌+◌, ◌<◌, ap, refl, arith}
use Rattle.cgm_search.proofs.Readiness.{need_decided, ready_decided}
use Rattle.cgm_search.proofs.searches.Search.decide.Goals as goal

pub returns-clause-ready : goal.returns-clause-ready
returns-clause-ready c =
    let room : c.args.self.now.trail.moves < c.args.self.now.plan.budget = omega arith in
    ready_decided c.args.self.now _ c.args.atom c.requires.ready (record { known = refl; choice = refl; plan = refl; worker = refl }) room c.in_ok-open_level.ensures.ok

pub returns-clause-answer : goal.returns-clause-answer
returns-clause-answer c =
    let room : c.args.self.now.trail.moves < c.args.self.now.plan.budget = omega arith in
    let moves : c.open_level.new.self.moves ≡ c.args.self.now.trail.moves + 1 = ap (λ t. t.moves) c.in_ok-open_level.ensures.ok in
    (omega arith, need_decided c.args.self.now (record c.args.self.now { trail = c.open_level.new.self }) c.args.atom refl room c.in_ok-open_level.ensures.ok)
