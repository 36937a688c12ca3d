use Rattle.std.proofs.Common.{ap, map, option_map, sym, ◌∙◌}
use Rattle.std.specs.String.{string_bytes}
use Rattle.cgm_cli.specs.CommandLine.{command_for, one_worker}
use Rattle.cgm_cli.specs.Commands.{asked_by}
use Rattle.cgm_cli.specs.Effects.{world}
use Rattle.cgm_cli.proofs.Ending.{lacks_memory, runs_action, runs_nothing}
use Rattle.cgm_cli.proofs.quiet.run_words.Goals as goal

pub returns-in-Ok-Some : goal.returns-in-Ok-Some
returns-in-Ok-Some g c =
    runs_action one_worker (map string_bytes c.args.words.now) (asked_by c.in-Ok-Some.action)
    (world (g.F.Shelf.state c.args.shelf.now) (g.O.Sink.state c.args.out.now) c.args.work.now)
    (world (g.F.Shelf.state c.run_action.new.shelf) (g.O.Sink.state c.run_action.new.out) c.run_action.new.work)
    c.run_action.result (sym (ap (option_map asked_by) c.in-Ok-Some.field-0-is) ∙ c.in-Ok-Some.ensures.command) c.run_action.ensures

pub returns-in-Ok-None : goal.returns-in-Ok-None
returns-in-Ok-None g c =
    runs_nothing one_worker (map string_bytes c.args.words.now) (g.F.Shelf.state c.args.shelf.now)
    (g.O.Sink.state c.args.out.now) (g.O.Sink.state c.tell.new.out) c.args.work.now (sym (ap (option_map asked_by) c.in-Ok-None.field-0-is) ∙ c.in-Ok-None.ensures.command) c.tell.ensures

pub returns-in-Err : goal.returns-in-Err
returns-in-Err g c =
    lacks_memory (command_for one_worker (map string_bytes c.args.words.now)) (g.F.Shelf.state c.args.shelf.now)
    (g.O.Sink.state c.args.out.now) (g.O.Sink.state c.tell_memory.new.out) c.args.work.now c.tell_memory.result c.tell_memory.ensures.status c.tell_memory.ensures.told
