use Rattle.std.proofs.Common.{ap, option_map, sym, ◌∙◌}
use Rattle.cgm_model.specs.Model.{lists_of}
use Rattle.cgm_cli.specs.CommandLine.{one_worker, with_workers}
use Rattle.cgm_cli.specs.Commands.{told_by}
use Rattle.cgm_cli.proofs.Ending.{earlier_kept, ends, ends_early, model_kept}
use Rattle.cgm_cli.proofs.quiet.run_command.Goals as goal

pub returns-in-Ok : goal.returns-in-Ok
returns-in-Ok g c =
    let read = c.in-Ok.input in
    let workers_for = one_worker in
    let told = told_by c.args.command in
    ends (with_workers workers_for told)
    (g.F.Shelf.state c.args.shelf.now) (g.F.Shelf.state c.input_of_files.new.shelf) (g.F.Shelf.state c.run_on-status.new.shelf)
    (g.O.Sink.state c.args.out.now) (g.O.Sink.state c.input_of_files.new.out) (g.O.Sink.state c.run_on-status.new.out)
    c.args.work.now c.run_on-status.new.work
    c.model.result.now (option_map (λ file. file.now) c.earlier.result) (lists_of read.reading.model) read.reading.rule_lines.items read.earlier.pairs c.run_on-status.result
    (c.model.ensures ∙ sym (model_kept workers_for told)) (c.earlier.ensures ∙ sym (earlier_kept workers_for told)) c.in-Ok.ensures.only (ap g.O.Sink.state c.in-Ok.ensures.untouched) c.in-Ok.ensures.outcome
    c.run_on-status.ensures.outcome c.run_on-status.ensures.files c.run_on-status.ensures.work

pub returns-in-Err : goal.returns-in-Err
returns-in-Err g c =
    let workers_for = one_worker in
    let told = told_by c.args.command in
    ends_early (with_workers workers_for told) (g.F.Shelf.state c.args.shelf.now) (g.F.Shelf.state c.input_of_files.new.shelf)
    (g.O.Sink.state c.args.out.now) (g.O.Sink.state c.input_of_files.new.out) c.args.work.now
    c.model.result.now (option_map (λ file. file.now) c.earlier.result) c.in-Err.status
    (c.model.ensures ∙ sym (model_kept workers_for told)) (c.earlier.ensures ∙ sym (earlier_kept workers_for told)) c.in-Err.ensures.only c.in-Err.ensures.outcome
