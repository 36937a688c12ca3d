use Rattle.std.proofs.Common.{ℕ, inr, option_map, rules, subst, sym}
use Rattle.cgm_model.specs.Model.{lists_of}
use Rattle.cgm_crew.specs.Crews.{IsCrew}
use Rattle.cgm_search.specs.declared.plans.Plan.{Plan}
use Rattle.cgm_search.specs.Searching.{IsPlan}
use Rattle.cgm_solve.specs.Answers.{IsSolved}
use Rattle.cgm_report.specs.Answers.{report_of}
use Rattle.cgm_cli.specs.Effects.{Outside, World, outside, world}
use Rattle.cgm_cli.specs.SolveOutcome.{Wanted, wanted}
use Rattle.cgm_cli.proofs.Solving.{files_left, outcome, printable, reportable, work_left}
use Rattle.cgm_cli.proofs.solve.solve_by_crew.Goals as goal

pub deliver-requires-clause-report : goal.deliver-requires-clause-report
deliver-requires-clause-report g c =
    let m = lists_of c.args.input.now.reading.model in
    reportable m c.args.input.now.earlier.pairs c.args.request.workers c.args.request.plan c.args.work.now c.solve.new.work c.in-Ok.answer (subst (λ (n : ℕ). IsSolved m c.args.input.now.earlier.pairs n c.args.request.plan c.args.work.now c.solve.new.work c.in-Ok.answer) c.crew-crew.ensures.workers
    (subst (λ (plan : Plan). IsSolved m c.args.input.now.earlier.pairs c.crew-crew.result.workers plan c.args.work.now c.solve.new.work c.in-Ok.answer) c.crew-crew.ensures.plan c.in-Ok.ensures.1))

pub deliver-requires-clause-entries : goal.deliver-requires-clause-entries
deliver-requires-clause-entries g c =
    let m = lists_of c.args.input.now.reading.model in
    printable m c.args.input.now.earlier.pairs c.args.request.workers c.args.request.plan c.args.work.now c.solve.new.work c.in-Ok.answer (subst (λ (n : ℕ). IsSolved m c.args.input.now.earlier.pairs n c.args.request.plan c.args.work.now c.solve.new.work c.in-Ok.answer) c.crew-crew.ensures.workers
    (subst (λ (plan : Plan). IsSolved m c.args.input.now.earlier.pairs c.crew-crew.result.workers plan c.args.work.now c.solve.new.work c.in-Ok.answer) c.crew-crew.ensures.plan c.in-Ok.ensures.1))

pub returns-in-Ok-clause-outcome : goal.returns-in-Ok-clause-outcome
returns-in-Ok-clause-outcome g c =
    let m = lists_of c.args.input.now.reading.model in
    let want : Wanted = wanted c.args.request.workers c.args.request.plan (option_map (λ file. file.now) c.args.request.cert) in
    let found : World = world (g.F.Shelf.state c.args.shelf.now) (g.O.Sink.state c.args.out.now) c.args.work.now in
    let left : World = world (g.F.Shelf.state c.deliver.new.shelf) (g.O.Sink.state c.deliver.new.out) c.solve.new.work in
    inr (
      c.in-Ok.ensures.0,
      outcome m c.args.input.now.earlier.pairs want found left c.in-Ok.answer c.deliver.result (subst (λ (n : ℕ). IsSolved m c.args.input.now.earlier.pairs n c.args.request.plan c.args.work.now c.solve.new.work c.in-Ok.answer) c.crew-crew.ensures.workers
          (subst (λ (plan : Plan). IsSolved m c.args.input.now.earlier.pairs c.crew-crew.result.workers plan c.args.work.now c.solve.new.work c.in-Ok.answer) c.crew-crew.ensures.plan c.in-Ok.ensures.1)) c.deliver.ensures.outcome,
    )

pub returns-in-Ok-clause-work : goal.returns-in-Ok-clause-work
returns-in-Ok-clause-work g c =
    let m = lists_of c.args.input.now.reading.model in
    let want : Wanted = wanted c.args.request.workers c.args.request.plan (option_map (λ file. file.now) c.args.request.cert) in
    let found : Outside = outside (g.F.Shelf.state c.args.shelf.now) (g.O.Sink.state c.args.out.now) in
    let left : Outside = outside (g.F.Shelf.state c.deliver.new.shelf) (g.O.Sink.state c.deliver.new.out) in
    work_left m c.args.input.now.earlier.pairs want c.args.work.now c.solve.new.work found left c.in-Ok.answer c.deliver.result (subst (λ (n : ℕ). IsSolved m c.args.input.now.earlier.pairs n c.args.request.plan c.args.work.now c.solve.new.work c.in-Ok.answer) c.crew-crew.ensures.workers
    (subst (λ (plan : Plan). IsSolved m c.args.input.now.earlier.pairs c.crew-crew.result.workers plan c.args.work.now c.solve.new.work c.in-Ok.answer) c.crew-crew.ensures.plan c.in-Ok.ensures.1)) c.deliver.ensures.outcome

pub returns-in-Ok-clause-files : goal.returns-in-Ok-clause-files
returns-in-Ok-clause-files g c =
    let m = lists_of c.args.input.now.reading.model in
    let found : Outside = outside (g.F.Shelf.state c.args.shelf.now) (g.O.Sink.state c.args.out.now) in
    let left : Outside = outside (g.F.Shelf.state c.deliver.new.shelf) (g.O.Sink.state c.deliver.new.out) in
    files_left (option_map (λ file. file.now) c.args.request.cert) (report_of m c.in-Ok.answer) found left c.in-Ok.answer c.deliver.result c.deliver.ensures.outcome

pub solve-requires : goal.solve-requires
solve-requires g c =
    let crew : IsCrew c.crew-crew.result = record {
      some = rw c.crew-crew.ensures.workers c.requires.plan.1;
      few = rw c.crew-crew.ensures.workers c.requires.plan.2;
      plan = subst (λ (plan : Plan). IsPlan plan) (sym c.crew-crew.ensures.plan) c.requires.plan.0;
    } in
    (search rules, (search rules, crew))
