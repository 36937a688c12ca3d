use Rattle.std.proofs.Common.{[], arith}
use Rattle.cgm_lex.specs.Lines.{lines}
use Rattle.cgm_lex.proofs.Readings.{read_begins, read_ends, read_goes_on, read_stops}
use Rattle.cgm_lex.proofs.reading.add_lines.Goals as goal

pub loop-line-init : goal.loop-line-init
loop-line-init g c =
    (read_begins g.D.Draft.form g.D.Draft.holds c.args.bytes.now c.args.draft.now c.requires.empty, omega arith, omega arith)

pub loop-line-preserved : goal.loop-line-preserved
loop-line-preserved g c =
    let room = c.loop-line.invariant.1 in
    let shorter = c.in-Some.ensures.1 in
    (read_goes_on g.D.Draft.form g.D.Draft.holds c.args.bytes.now c.in-Some.line.now c.loop-line.rest.now c.in-Some.after.now c.loop-line.number c.loop-line.draft c.add_line.new.self c.in-Some.ensures.0 c.loop-line.invariant.0 c.in-Ok.ensures.step, omega arith, omega arith)

pub returns-in-Err-clause-stop : goal.returns-in-Err-clause-stop
returns-in-Err-clause-stop g c =
    rw c.text_stop.ensures (read_stops g.D.Draft.form g.D.Draft.holds c.args.bytes.now c.in-Some.line.now c.loop-line.rest.now (lines c.in-Some.after.now) c.loop-line.number c.loop-line.draft c.in-Err.stop c.in-Some.ensures.0 c.loop-line.invariant.0 c.in-Err.ensures.stop)

pub add_line-requires-2 : goal.add_line-requires-2
add_line-requires-2 g c =
    let short = c.requires.short in
    let room = c.loop-line.invariant.1 in
    let first = c.loop-line.invariant.2 in
    omega (arith, short, room, first)

pub returns-in-Ok-add_line-clause-read : goal.returns-in-Ok-add_line-clause-read
returns-in-Ok-add_line-clause-read g c =
    read_ends g.D.Draft.form g.D.Draft.holds c.args.bytes.now c.loop-line.rest.now c.loop-line.number c.loop-line.draft c.add_line-2.new.self c.in_default.ensures c.loop-line.invariant.0 c.in-Ok-add_line.ensures.step

pub returns-in-Err-add_line-clause-stop : goal.returns-in-Err-add_line-clause-stop
returns-in-Err-add_line-clause-stop g c =
    rw c.text_stop-in-Err-add_line.ensures (read_stops g.D.Draft.form g.D.Draft.holds c.args.bytes.now c.loop-line.rest.now c.loop-line.rest.now [] c.loop-line.number c.loop-line.draft c.in-Err-add_line.stop c.in_default.ensures c.loop-line.invariant.0 c.in-Err-add_line.ensures.stop)
