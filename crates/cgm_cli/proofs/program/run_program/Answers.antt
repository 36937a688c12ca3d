use Rattle.std.proofs.Common.{◌≡◌, drop, map, None, subst}
use Rattle.std.specs.IoError.{error_kind}
use Rattle.std.specs.String.{string_bytes}
use Rattle.std.specs.Vec.Iter.{into_iter_items}
use Rattle.std.specs.declared.io.ErrorKind.TheVariants as kinds
use Rattle.cgm_base.specs.declared.status.Status.TheVariants as statuses
use Rattle.cgm_cli.specs.CommandLine.{as_asked, command_for}
use Rattle.cgm_cli.specs.Effects.{World, world}
use Rattle.cgm_cli.specs.Outcome.{Runs}
use Rattle.cgm_cli.proofs.Ending.{always_given, always_refused, given_words, lacks_memory, refused_words}
use Rattle.cgm_cli.proofs.program.run_program.Goals as goal

pub returns-in-Ok-clause-given : goal.returns-in-Ok-clause-given
returns-in-Ok-clause-given g c =
    let found : World = world (g.F.Shelf.state c.args.shelf.now) (g.O.Sink.state c.args.out.now) c.args.work.now in
    let left : World = world (g.F.Shelf.state c.run.new.shelf) (g.O.Sink.state c.run.new.out) c.run.new.work in
    let runs : Runs (command_for as_asked (map string_bytes c.as_slice.result.now)) found left c.run.result = record {
      outcome = c.run.ensures.outcome;
      files = c.run.ensures.files;
      work = c.run.ensures.work;
    } in
    given_words c.args.args (λ args. drop 1 (into_iter_items args)) c.in-Ok.words.items (λ words. Runs (command_for as_asked (map string_bytes words)) found left c.run.result)
    c.in-Ok.ensures.words
    (subst (λ words. Runs (command_for as_asked (map string_bytes words)) found left c.run.result) c.as_slice.ensures.value runs)

pub returns-in-Ok-clause-refused : goal.returns-in-Ok-clause-refused
returns-in-Ok-clause-refused g c =
    let found : World = world (g.F.Shelf.state c.args.shelf.now) (g.O.Sink.state c.args.out.now) c.args.work.now in
    let left : World = world (g.F.Shelf.state c.run.new.shelf) (g.O.Sink.state c.run.new.out) c.run.new.work in
    let runs : Runs (command_for as_asked (map string_bytes c.as_slice.result.now)) found left c.run.result = record {
      outcome = c.run.ensures.outcome;
      files = c.run.ensures.files;
      work = c.run.ensures.work;
    } in
    refused_words c.args.args (λ error. error_kind error ≡ kinds.OutOfMemory) c.in-Ok.words.items (λ words. Runs (command_for as_asked (map string_bytes words)) found left c.run.result) (c.run.result ≡ statuses.Memory)
    c.in-Ok.ensures.none c.in-Ok.ensures.memory
    (subst (λ words. Runs (command_for as_asked (map string_bytes words)) found left c.run.result) c.as_slice.ensures.value runs)

pub returns-in-Err-clause-given : goal.returns-in-Err-clause-given
returns-in-Err-clause-given g c =
    let shelf = g.F.Shelf.state c.args.shelf.now in
    let sink = g.O.Sink.state c.args.out.now in
    let said = g.O.Sink.state c.tell_memory.new.out in
    let work = c.args.work.now in
    always_given c.args.args (λ args. Runs (command_for as_asked (map string_bytes (drop 1 (into_iter_items args)))) (world shelf sink work) (world shelf said work) c.tell_memory.result)
    (λ args. lacks_memory (command_for as_asked (map string_bytes (drop 1 (into_iter_items args)))) shelf sink said work c.tell_memory.result c.tell_memory.ensures.status c.tell_memory.ensures.told)

pub returns-in-Err-clause-refused : goal.returns-in-Err-clause-refused
returns-in-Err-clause-refused g c =
    let shelf = g.F.Shelf.state c.args.shelf.now in
    let sink = g.O.Sink.state c.args.out.now in
    let said = g.O.Sink.state c.tell_memory.new.out in
    let work = c.args.work.now in
    always_refused c.args.args (λ error. Runs None (world shelf sink work) (world shelf said work) c.tell_memory.result × (error_kind error ≡ kinds.OutOfMemory → c.tell_memory.result ≡ statuses.Memory))
    (λ error. (lacks_memory None shelf sink said work c.tell_memory.result c.tell_memory.ensures.status c.tell_memory.ensures.told, λ lacks. c.tell_memory.ensures.status))
