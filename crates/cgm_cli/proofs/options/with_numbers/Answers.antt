use Rattle.std.proofs.Common.{◌≡◌, codes, ap, ◌∙◌}
use Rattle.clap.specs.Words.{app_of, with_rule}
use Rattle.cgm_cli.specs.CommandLine.{option}
use Rattle.cgm_cli.proofs.options.with_numbers.Goals as goal

pub returns : goal.returns
returns c =
    let options = app_of c.args.options in
    let workers : app_of c.in_ok-with_workers.with_workers ≡ with_rule options (option (codes "workers")) = c.in_ok-with_workers.ensures in
    let budget : app_of c.in_ok-with_budget.with_budget ≡ with_rule (with_rule options (option (codes "workers"))) (option (codes "budget")) =
    c.in_ok-with_budget.ensures ∙ ap (λ o. with_rule o (option (codes "budget"))) workers in
    let restarts : app_of c.in_ok-with_restarts.with_restarts ≡ with_rule (with_rule (with_rule options (option (codes "workers"))) (option (codes "budget"))) (option (codes "restarts")) =
    c.in_ok-with_restarts.ensures ∙ ap (λ o. with_rule o (option (codes "restarts"))) budget in
    rw (← ap (λ o. with_rule o (option (codes "seed"))) restarts) c.with_option-4.ensures
