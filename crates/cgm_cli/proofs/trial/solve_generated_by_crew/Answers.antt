use Rattle.std.proofs.Common.{Err, rules, subst, sym}
use Rattle.cgm_crew.specs.Crews.{IsCrew, plan_of}
use Rattle.cgm_search.specs.declared.plans.Plan.{Plan}
use Rattle.cgm_search.specs.Searching.{IsPlan}
use Rattle.cgm_model.specs.Model.{lists_of}
use Rattle.cgm_solve.specs.Answers.{IsSolveAnswer}
use Rattle.cgm_gen.proofs.Least.{generated_is_realized}
use Rattle.cgm_cli.specs.CommandLine.{as_asked}
use Rattle.cgm_cli.proofs.Trialling.{answered, concluded, never_past_generated, no_shelf, realizable, solved_generated, work_answered}
use Rattle.cgm_cli.proofs.trial.solve_generated_by_crew.Goals as goal

pub conclude-requires-clause-concluded : goal.conclude-requires-clause-concluded
conclude-requires-clause-concluded g c =
    let request = c.args.request in
    concluded request.goals request.workers request.plan c.args.work.now c.solve.new.work c.in-Ok.answer
    (solved_generated c.args.model.now request.goals c.unknown-earlier.result.pairs as_asked c.crew-crew.result.workers request.workers (plan_of c.crew-crew.result) request.plan c.args.work.now c.solve.new.work c.in-Ok.answer c.requires.model c.unknown-earlier.ensures c.crew-crew.ensures.workers c.crew-crew.ensures.plan c.in-Ok.ensures.1)

pub returns-in-Ok-clause-outcome : goal.returns-in-Ok-clause-outcome
returns-in-Ok-clause-outcome g c =
    let request = c.args.request in
    let solved = solved_generated c.args.model.now request.goals c.unknown-earlier.result.pairs as_asked c.crew-crew.result.workers request.workers (plan_of c.crew-crew.result) request.plan c.args.work.now c.solve.new.work c.in-Ok.answer c.requires.model c.unknown-earlier.ensures c.crew-crew.ensures.workers c.crew-crew.ensures.plan c.in-Ok.ensures.1 in
    λ shelf. answered request.goals request.workers request.plan shelf (g.O.Sink.state c.args.out.now) (g.O.Sink.state c.conclude.new.out) c.args.work.now c.solve.new.work c.requires.within
    c.in-Ok.answer c.conclude.result (realizable generated_is_realized request.goals c.requires.within) solved c.conclude.ensures

pub returns-in-Ok-clause-work : goal.returns-in-Ok-clause-work
returns-in-Ok-clause-work g c =
    let request = c.args.request in
    let solved = solved_generated c.args.model.now request.goals c.unknown-earlier.result.pairs as_asked c.crew-crew.result.workers request.workers (plan_of c.crew-crew.result) request.plan c.args.work.now c.solve.new.work c.in-Ok.answer c.requires.model c.unknown-earlier.ensures c.crew-crew.ensures.workers c.crew-crew.ensures.plan c.in-Ok.ensures.1 in
    work_answered request.goals request.workers request.plan no_shelf (g.O.Sink.state c.args.out.now) (g.O.Sink.state c.conclude.new.out) c.args.work.now c.solve.new.work c.requires.within
    c.in-Ok.answer c.conclude.result solved c.conclude.ensures

pub unreachable-requires : goal.unreachable-requires
unreachable-requires g c =
    never_past_generated c.args.model.now c.args.request.goals c.in-Err-Row.rule c.requires.within c.requires.model
    (subst (λ stop. IsSolveAnswer (lists_of c.args.model.now) c.unknown-earlier.result.pairs c.crew-crew.result.workers (plan_of c.crew-crew.result) c.args.work.now c.solve.new.work (Err stop)) c.in-Err-Row.field-0-is c.in-Err-Row.ensures).0

pub solve-requires : goal.solve-requires
solve-requires g c =
    let crew : IsCrew c.crew-crew.result = record {
      some = rw c.crew-crew.ensures.workers c.requires.plan.1;
      few = rw c.crew-crew.ensures.workers c.requires.plan.2;
      plan = subst (λ (plan : Plan). IsPlan plan) (sym c.crew-crew.ensures.plan) c.requires.plan.0;
    } in
    (search rules, (search rules, crew))
