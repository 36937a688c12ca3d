use Rattle.std.proofs.Common.{subst, sym}
use Rattle.cgm_model.specs.Model.{lists_of}
use Rattle.cgm_cli.specs.CommandLine.{one_worker, with_workers}
use Rattle.cgm_cli.specs.Commands.{told_by}
use Rattle.cgm_cli.specs.Effects.{World, world}
use Rattle.cgm_cli.specs.Outcome.{HasOwnOutcome, LeavesFiles}
use Rattle.cgm_cli.proofs.quiet.run_on.Goals as goal

pub returns-in-Solve-clause-outcome : goal.returns-in-Solve-clause-outcome
returns-in-Solve-clause-outcome g c =
    let read = c.args.input.now in
    let found : World = world (g.F.Shelf.state c.args.shelf.now) (g.O.Sink.state c.args.out.now) c.args.work.now in
    let left : World = world (g.F.Shelf.state c.solve_by_one.new.shelf) (g.O.Sink.state c.solve_by_one.new.out) c.solve_by_one.new.work in
    subst (λ command. HasOwnOutcome (with_workers one_worker (told_by command)) found left (lists_of read.reading.model) read.reading.rule_lines.items read.earlier.pairs c.solve_by_one.result) (sym c.in-Solve.is) c.solve_by_one.ensures.outcome

pub returns-in-Check-clause-outcome : goal.returns-in-Check-clause-outcome
returns-in-Check-clause-outcome g c =
    let read = c.args.input.now in
    let found : World = world (g.F.Shelf.state c.args.shelf.now) (g.O.Sink.state c.args.out.now) c.args.work.now in
    let left : World = world (g.F.Shelf.state c.check.new.shelf) (g.O.Sink.state c.check.new.out) c.args.work.now in
    subst (λ command. HasOwnOutcome (with_workers one_worker (told_by command)) found left (lists_of read.reading.model) read.reading.rule_lines.items read.earlier.pairs c.check.result) (sym c.in-Check.is) c.check.ensures.outcome

pub returns-in-Check-clause-files : goal.returns-in-Check-clause-files
returns-in-Check-clause-files g c =
    let old = g.F.Shelf.state c.args.shelf.now in
    let new = g.F.Shelf.state c.check.new.shelf in
    let only = c.check.ensures.only in
    subst (λ command. LeavesFiles (with_workers one_worker (told_by command)) old new c.check.result) (sym c.in-Check.is) (record { same = only.files; counted = only.writes })
