use Rattle.std.proofs.Common.{subst}
use Rattle.cgm_gen.proofs.Least.{generated_is_realized}
use Rattle.cgm_cli.specs.TrialOutcome.{IsTrialAnswer}
use Rattle.cgm_cli.proofs.Trialling.{realizable}
use Rattle.cgm_cli.proofs.trial.conclude.Goals as goal

pub unreachable-requires : goal.unreachable-requires
unreachable-requires g c =
    realizable generated_is_realized c.args.goals c.requires.within (subst (λ a. IsTrialAnswer c.args.goals a) c.in-Unrealizable.is c.requires.concluded)

pub unreachable-requires-in-Open : goal.unreachable-requires-in-Open
unreachable-requires-in-Open g c = subst (λ a. IsTrialAnswer c.args.goals a) c.in-Open.is c.requires.concluded
