-- The command that the program's words were read as.
use Rattle.std.specs.Prelude.{◌≤◌, option_map}
use Rattle.cgm_atom.specs.Limits.{max_workers}
use Rattle.cgm_search.specs.Searching.{IsPlan}
use Rattle.cgm_cli.specs.declared.command.Command.{Command as CommandRead}
use Rattle.cgm_cli.specs.declared.command.Command.TheVariants as read
use Rattle.cgm_cli.specs.declared.command.Action.{Action as ActionRead}
use Rattle.cgm_cli.specs.declared.command.Action.TheVariants as actions_read
use Rattle.cgm_cli.specs.declared.command.CheckRequest.{CheckRequest}
use Rattle.cgm_cli.specs.declared.command.EncodeRequest.{EncodeRequest}
use Rattle.cgm_cli.specs.declared.command.SolveRequest.{SolveRequest}
use Rattle.cgm_cli.specs.CommandLine.{Action, Command, solve, check, show, encode, on_files, trial}

abbrev pub solving : SolveRequest → Command
solving request =
    solve request.model.now (option_map (λ name. name.now) request.earlier)
    (option_map (λ name. name.now) request.cert)
    request.workers request.plan

abbrev pub checking : CheckRequest → Command
checking request =
    check request.model.now request.cert.now (option_map (λ name. name.now) request.earlier)

abbrev pub encoding : EncodeRequest → Command
encoding request = encode request.model.now (option_map (λ name. name.now) request.earlier)

abbrev pub told_by : CommandRead → Command
told_by (read.Solve request) = solving request
told_by (read.Check request) = checking request
told_by (read.Show model) = show model.now
told_by (read.Encode request) = encoding request

-- the number of workers and the numbers of the plan are within their limits
abbrev pub HasPlan : CommandRead → Type 0
HasPlan (read.Solve request) =
    IsPlan request.plan × (1 ≤ request.workers) × (request.workers ≤ max_workers)
HasPlan (read.Check request) = Unit {0}
HasPlan (read.Show model) = Unit {0}
HasPlan (read.Encode request) = Unit {0}

-- what the program's words were read as
abbrev pub asked_by : ActionRead → Action
asked_by (actions_read.OnFiles command) = on_files (told_by command)
asked_by (actions_read.Trial request) = trial request.goals request.workers request.plan

-- the number of workers and the numbers of the plan are within their limits
abbrev pub HasActionPlan : ActionRead → Type 0
HasActionPlan (actions_read.OnFiles command) = HasPlan command
HasActionPlan (actions_read.Trial request) =
    IsPlan request.plan × (1 ≤ request.workers) × (request.workers ≤ max_workers)
