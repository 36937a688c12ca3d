use Rattle.std.proofs.Common.{ap, subst}
use Rattle.cgm_cli.specs.Effects.{world}
use Rattle.cgm_cli.specs.TrialOutcome.{HasTrialOutcome}
use Rattle.cgm_cli.proofs.Trialling.{nothing_generated, unchanged_memory}
use Rattle.cgm_cli.proofs.quiet.trial_by_one.Goals as goal

pub returns-in-Ok-clause-outcome : goal.returns-in-Ok-clause-outcome
returns-in-Ok-clause-outcome g c =
    let request = c.args.request in
    let said = g.O.Sink.state c.solve_generated_by_one-status.new.out in
    λ shelf. subst (λ sink. HasTrialOutcome request.goals 1 request.plan (world shelf sink c.args.work.now) (world shelf said c.solve_generated_by_one-status.new.work) c.solve_generated_by_one-status.result)
    (ap g.O.Sink.state c.in-Ok.ensures.untouched) (c.solve_generated_by_one-status.ensures.outcome shelf)

pub returns-in-Err-clause-outcome : goal.returns-in-Err-clause-outcome
returns-in-Err-clause-outcome g c =
    let request = c.args.request in
    λ shelf. nothing_generated request.goals 1 request.plan shelf (g.O.Sink.state c.args.out.now) (g.O.Sink.state c.reading_of_goals.new.out) c.args.work.now
    c.in-Err.status c.in-Err.ensures.refused

pub returns-in-Err-clause-work : goal.returns-in-Err-clause-work
returns-in-Err-clause-work g c = unchanged_memory c.args.work.now c.in-Err.status
