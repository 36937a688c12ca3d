use Rattle.std.proofs.Common.{◌++◌, map, []}
use Rattle.cgm_model.specs.Model.{lists_of}
use Rattle.cgm_print.specs.Canonical.{statement_lines}
use Rattle.cgm_print.specs.Printing.{text_followed}
use Rattle.cgm_print.proofs.Spaces.{line_more, lines_done}
use Rattle.cgm_print.proofs.line.lines.Goals as goal

pub loop-one-preserved : goal.loop-one-preserved
loop-one-preserved g c =
    let m = lists_of c.args.model.now in
    let xs = c.args.all.now in
    line_more m g.L.Line.statement xs c.loop-one.one-index c.one-item.result c.loop-one-test.true c.one-item.is
    (c.args.printer.now.text.items ++ statement_lines m (map g.L.Line.statement xs)) c.loop-one.printer.text.items (text_followed c.write.new.printer []) c.end_line.new.self.text.items
    c.loop-one.invariant c.in_ok-write.ensures c.in_ok-end_line.ensures

pub returns : goal.returns
returns g c =
    let m = lists_of c.args.model.now in
    let xs = c.args.all.now in
    lines_done m g.L.Line.statement xs c.loop-one.one-index c.loop-one-test.false
    (c.args.printer.now.text.items ++ statement_lines m (map g.L.Line.statement xs)) c.loop-one.printer.text.items c.loop-one.invariant
