use Rattle.std.proofs.Common.{refl, subst, sym}
use Rattle.cgm_cli.specs.CommandLine.{one_worker, searching_by}
use Rattle.cgm_cli.specs.Commands.{asked_by}
use Rattle.cgm_cli.specs.Effects.{World, world}
use Rattle.cgm_cli.specs.Outcome.{Ends}
use Rattle.cgm_cli.proofs.quiet.run_action.Goals as goal

pub returns-in-OnFiles : goal.returns-in-OnFiles
returns-in-OnFiles g c =
    let found : World = world (g.F.Shelf.state c.args.shelf.now) (g.O.Sink.state c.args.out.now) c.args.work.now in
    let left : World = world (g.F.Shelf.state c.run_command.new.shelf) (g.O.Sink.state c.run_command.new.out) c.run_command.new.work in
    subst (λ action. Ends (searching_by one_worker (asked_by action)) found left c.run_command.result) (sym c.in-OnFiles.is) c.run_command.ensures

pub returns-in-Trial : goal.returns-in-Trial
returns-in-Trial g c =
    let shelf = g.F.Shelf.state c.args.shelf.now in
    let found : World = world shelf (g.O.Sink.state c.args.out.now) c.args.work.now in
    let left : World = world shelf (g.O.Sink.state c.trial_by_one.new.out) c.trial_by_one.new.work in
    subst (λ action. Ends (searching_by one_worker (asked_by action)) found left c.trial_by_one.result) (sym c.in-Trial.is)
    (record { outcome = c.trial_by_one.ensures.outcome shelf; files = record { same = refl; counted = refl }; work = c.trial_by_one.ensures.work })
