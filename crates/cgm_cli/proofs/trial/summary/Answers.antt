use Rattle.std.proofs.Common.{subst, IfOk, ◌≡◌, ℕ, List}
use Rattle.std.specs.String.{string_bytes}
use Rattle.cgm_cli.specs.TrialOutcome.{summary_of}
use Rattle.cgm_cli.proofs.Trialling.{summary_lines}
use Rattle.cgm_cli.proofs.trial.summary.Goals as goal

pub returns : goal.returns
returns c =
    subst (λ (cost : ℕ). IfOk c.format.result (λ text. string_bytes text ≡ summary_of c.args.goals cost)) c.requires
    (subst (λ (bytes : List ℕ). IfOk c.format.result (λ text. string_bytes text ≡ bytes)) (summary_lines c.args.goals c.args.cost) c.format.ensures.ok)
