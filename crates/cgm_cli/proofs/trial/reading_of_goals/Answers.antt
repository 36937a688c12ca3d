use Rattle.std.proofs.Common.{inl, inr, subst}
use Rattle.cgm_base.specs.declared.status.Status.TheVariants as statuses
use Rattle.cgm_gen.specs.GeneratedText.{IsNotGenerated}
use Rattle.cgm_cli.specs.Effects.{TellsOrLacksMemory}
use Rattle.cgm_cli.specs.FaultLines.{limit_fault}
use Rattle.cgm_cli.proofs.trial.reading_of_goals.Goals as goal

pub returns-in-Err-Limit-clause-refused : goal.returns-in-Err-Limit-clause-refused
returns-in-Err-Limit-clause-refused g c =
    let sink = g.O.Sink.state c.args.out.now in
    let said = g.O.Sink.state c.tell_fault.new.out in
    let past = subst (IsNotGenerated c.args.goals) c.in-Err-Limit.field-0-is c.in-Err-Limit.ensures.outcome in
    let told = subst (λ limit. TellsOrLacksMemory (limit_fault limit) statuses.Limit sink said c.tell_fault.result) c.too_many_goals.ensures c.tell_fault.ensures in
    inl (past, told)

pub returns-in-Err-Memory-clause-refused : goal.returns-in-Err-Memory-clause-refused
returns-in-Err-Memory-clause-refused g c = inr (c.tell_memory.ensures.status, c.tell_memory.ensures.told)
