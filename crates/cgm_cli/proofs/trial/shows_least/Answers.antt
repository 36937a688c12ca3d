use Rattle.std.proofs.Common.{Err, subst}
use Rattle.cgm_model.specs.Model.{lists_of}
use Rattle.cgm_solve.specs.Answers.{IsVerifyAnswer}
use Rattle.cgm_cli.proofs.Trialling.{least_shown, never_past}
use Rattle.cgm_cli.proofs.trial.shows_least.Goals as goal

pub returns-in-Ok : goal.returns-in-Ok
returns-in-Ok c =
    least_shown (lists_of c.args.model.now) c.unknown-earlier.result.pairs c.args.entries.now c.in-Ok.verified c.is_least.result c.unknown-earlier.ensures c.is_least.ensures c.in-Ok.ensures.1

pub unreachable-requires : goal.unreachable-requires
unreachable-requires c =
    never_past (lists_of c.args.model.now) c.in-Err-Row.rule c.requires
    (subst (λ stop. IsVerifyAnswer (lists_of c.args.model.now) c.unknown-earlier.result.pairs c.args.entries.now (Err stop)) c.in-Err-Row.field-0-is c.in-Err-Row.ensures)
