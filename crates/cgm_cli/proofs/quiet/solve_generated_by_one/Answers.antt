use Rattle.std.proofs.Common.{Err, refl, subst}
use Rattle.cgm_model.specs.Model.{lists_of}
use Rattle.cgm_solve.specs.Answers.{IsSolveAnswer}
use Rattle.cgm_gen.proofs.Least.{generated_is_realized}
use Rattle.cgm_cli.specs.CommandLine.{one_worker}
use Rattle.cgm_cli.proofs.Trialling.{answered, concluded, never_past_generated, no_shelf, realizable, solved_generated, work_answered}
use Rattle.cgm_cli.proofs.quiet.solve_generated_by_one.Goals as goal

pub conclude-requires-clause-concluded : goal.conclude-requires-clause-concluded
conclude-requires-clause-concluded g c =
    let request = c.args.request in
    concluded request.goals 1 request.plan c.args.work.now c.solve_alone.new.work c.in-Ok.answer
    (solved_generated c.args.model.now request.goals c.unknown-earlier.result.pairs one_worker request.workers request.workers request.plan request.plan c.args.work.now c.solve_alone.new.work c.in-Ok.answer c.requires.model c.unknown-earlier.ensures refl refl c.in-Ok.ensures.1)

pub returns-in-Ok-clause-outcome : goal.returns-in-Ok-clause-outcome
returns-in-Ok-clause-outcome g c =
    let request = c.args.request in
    let solved = solved_generated c.args.model.now request.goals c.unknown-earlier.result.pairs one_worker request.workers request.workers request.plan request.plan c.args.work.now c.solve_alone.new.work c.in-Ok.answer c.requires.model c.unknown-earlier.ensures refl refl c.in-Ok.ensures.1 in
    λ shelf. answered request.goals 1 request.plan shelf (g.O.Sink.state c.args.out.now) (g.O.Sink.state c.conclude.new.out) c.args.work.now c.solve_alone.new.work c.requires.within
    c.in-Ok.answer c.conclude.result (realizable generated_is_realized request.goals c.requires.within) solved c.conclude.ensures

pub returns-in-Ok-clause-work : goal.returns-in-Ok-clause-work
returns-in-Ok-clause-work g c =
    let request = c.args.request in
    let solved = solved_generated c.args.model.now request.goals c.unknown-earlier.result.pairs one_worker request.workers request.workers request.plan request.plan c.args.work.now c.solve_alone.new.work c.in-Ok.answer c.requires.model c.unknown-earlier.ensures refl refl c.in-Ok.ensures.1 in
    work_answered request.goals 1 request.plan no_shelf (g.O.Sink.state c.args.out.now) (g.O.Sink.state c.conclude.new.out) c.args.work.now c.solve_alone.new.work c.requires.within
    c.in-Ok.answer c.conclude.result solved c.conclude.ensures

pub unreachable-requires : goal.unreachable-requires
unreachable-requires g c =
    never_past_generated c.args.model.now c.args.request.goals c.in-Err-Row.rule c.requires.within c.requires.model
    (subst (λ stop. IsSolveAnswer (lists_of c.args.model.now) c.unknown-earlier.result.pairs 1 c.args.request.plan c.args.work.now c.solve_alone.new.work (Err stop)) c.in-Err-Row.field-0-is c.in-Err-Row.ensures).0

pub solve_alone-requires : goal.solve_alone-requires
solve_alone-requires g c = c.requires.plan.0
